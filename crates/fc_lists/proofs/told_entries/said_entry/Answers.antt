use Rattle.std.proofs.Common.{rules, ◌≡◌, length}
use Rattle.fc_replay.specs.Token.{move_tokens}
use Rattle.fc_lists.proofs.ToldLemmas.{too_many}
use Rattle.fc_lists.proofs.told_entries.said_entry.Goals as goal

pub returns-then-is_err-clause-refused : goal.returns-then-is_err-clause-refused
returns-then-is_err-clause-refused c =
    let full : length c.loop-word.words.items ≡ 9 = search rules in
    too_many (move_tokens c.args.line.now) (move_tokens c.loop-word.word-iterator.rest.now) (move_tokens c.next.new.self.rest.now) c.in-Some.word.now
    c.loop-word.words.items c.loop-word.invariant c.in-Some.ensures.steps full
