use Rattle.std.proofs.Common.{◌≡◌, ◌≤◌, not, take}
use Rattle.std.specs.Prelude.{◌==◌, count_by}
use Rattle.fc_canonical.proofs.checks.full_cells.Given as goal

-- those so far are counted
abbrev pub invariant-loop-byte : goal.invariant-loop-byte
invariant-loop-byte l = (l.full ≡ count_by (λ byte. not (byte == 255)) (take l.byte-index l.bytes)) × (l.full ≤ l.byte-index)
