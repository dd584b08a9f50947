use Rattle.fc_codes.specs.State.{IsCodeOf}
use Rattle.fc_tests.proofs.codes.code_after.Given as goal

-- the code is that of the position
abbrev pub invariant-loop-word : goal.invariant-loop-word
invariant-loop-word g l =
    (goal.iterator-loop-word g).can_next l.word-iterator × (goal.iterator-loop-word g).is_finite l.word-iterator
    × IsCodeOf l.layout l.position l.code
