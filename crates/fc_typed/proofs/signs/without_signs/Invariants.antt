use Rattle.std.proofs.Common.{◌≡◌, ◌+◌, ◌≤◌, ◌++◌, length}
use Rattle.fc_typed.specs.Tidy.{without_signs}
use Rattle.fc_typed.proofs.signs.without_signs.Given as goal

-- the text so far is tidy, and the rest is left
abbrev pub invariant-loop-rest : goal.invariant-loop-rest
invariant-loop-rest l = record {
  tidy : l.tidy.items ++ without_signs 0 l.rest ≡ without_signs 0 l.text;
  within : length l.tidy.items + length l.rest ≤ length l.text;
}

abbrev pub decreases-loop-rest : goal.decreases-loop-rest
decreases-loop-rest l = length l.rest
