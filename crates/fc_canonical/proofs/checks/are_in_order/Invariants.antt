use Rattle.std.proofs.Common.{ℕ, ◌≤◌, ◌<◌}
use Rattle.std.specs.Prelude.{slice_index}
use Rattle.fc_canonical.proofs.checks.are_in_order.Given as goal

-- so far none is lower than one before it
abbrev pub invariant-loop-i : goal.invariant-loop-i
invariant-loop-i l = (j k : ℕ) → j ≤ k → k < l.i → slice_index l.bytes j ≤ slice_index l.bytes k
