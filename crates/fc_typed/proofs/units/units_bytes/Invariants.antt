use Rattle.std.proofs.Common.{◌≡◌, ◌+◌, ◌*◌, ◌≤◌, ◌++◌, length}
use Rattle.fc_typed.specs.Unit.{units_bytes}
use Rattle.fc_typed.proofs.units.units_bytes.Given as goal

-- the units so far are in bytes, and the rest is left
abbrev pub invariant-loop-rest : goal.invariant-loop-rest
invariant-loop-rest l = record {
  tidy : l.bytes.items ++ units_bytes l.order l.rest ≡ units_bytes l.order l.units;
  within : 2 * length l.bytes.items + 3 * length l.rest ≤ 3 * length l.units;
}

abbrev pub decreases-loop-rest : goal.decreases-loop-rest
decreases-loop-rest l = length l.rest
