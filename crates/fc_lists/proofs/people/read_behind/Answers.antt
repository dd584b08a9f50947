use Rattle.std.proofs.Common.{sym, ◌∙◌}
use Rattle.fc_lists.proofs.HeldLemmas.{placed, read_on, refused_on, released_word}
use Rattle.fc_lists.proofs.people.read_behind.Goals as goal

pub returns-in-Some-clause-read : goal.returns-in-Some-clause-read
returns-in-Some-clause-read c =
    placed c.args.word.now c.in-Some.place c.args.before c.args.entries.now.items c.push_entry.new.entries.items (sym c.is_link.ensures.value ∙ c.if-is_link.false)
    c.in-Some.ensures.named c.in_ok-push_entry.ensures.pushed

pub returns-clause-read : goal.returns-clause-read
returns-clause-read c =
    let old = c.args.entries.now.items in
    let mid = c.push_move.new.entries.items in
    read_on c.args.word.now c.args.before old mid c.begin_entry.new.entries.items
    (released_word c.args.word.now c.args.before old mid (sym c.is_link.ensures.value ∙ c.if-is_link.false) c.in_default.ensures.refused c.in_ok-push_move.ensures.pushed)
    c.begin_entry.result c.begin_entry.ensures.read

pub returns-clause-fault : goal.returns-clause-fault
returns-clause-fault c =
    let old = c.args.entries.now.items in
    let mid = c.push_move.new.entries.items in
    refused_on c.args.word.now c.args.before old mid c.begin_entry.new.entries.items
    (released_word c.args.word.now c.args.before old mid (sym c.is_link.ensures.value ∙ c.if-is_link.false) c.in_default.ensures.refused c.in_ok-push_move.ensures.pushed)
    c.begin_entry.result c.begin_entry.ensures.fault
