use Rattle.std.proofs.Common.{◌≡◌, length}
use Rattle.fc_typed.specs.Title.{has_word}
use Rattle.fc_typed.proofs.titles.has_word.Given as goal

-- the bytes that are left decide
abbrev pub invariant-loop-rest : goal.invariant-loop-rest
invariant-loop-rest l = has_word l.rest ≡ has_word l.token

abbrev pub decreases-loop-rest : goal.decreases-loop-rest
decreases-loop-rest l = length l.rest
