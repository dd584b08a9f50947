use Rattle.std.proofs.Common.{◌≡◌, length}
use Rattle.fc_row_text.specs.Places.{are_apart}
use Rattle.fc_row_text.proofs.readings.are_apart.Given as goal

-- the words that are left decide
abbrev pub invariant-loop-rest : goal.invariant-loop-rest
invariant-loop-rest l = are_apart l.rest ≡ are_apart l.words

abbrev pub decreases-loop-rest : goal.decreases-loop-rest
decreases-loop-rest l = length l.rest
