use Rattle.fc_lists.proofs.HeldLemmas.{moved, unmoved}
use Rattle.fc_lists.proofs.people.begin_entry.Goals as goal

pub returns-in-Err-clause-fault : goal.returns-in-Err-clause-fault
returns-in-Err-clause-fault c =
    unmoved c.args.word.now c.move_of-m.result c.args.entries.now.items c.in-Err.fault (λ card spells. c.in_default.ensures.refused card spells.below spells.text)
    c.move_of-m.ensures.refused c.in-Err.ensures.fault

pub returns-in-Ok-clause-read : goal.returns-in-Ok-clause-read
returns-in-Ok-clause-read c =
    moved c.args.word.now c.move_of-m.result c.args.entries.now.items c.push_move.new.entries.items
    (λ card spells. c.in_default.ensures.refused card spells.below spells.text) c.move_of-m.ensures.read c.in-Ok.ensures.pushed
