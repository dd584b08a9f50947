use Rattle.std.proofs.Common.{◌≡◌, ◌*◌, ◌≤◌, length, take}
use Rattle.std.specs.List.{flat_map}
use Rattle.fc_cert.specs.Content.{record_bytes}
use Rattle.fc_cert.proofs.lengths.records_length.Given as goal

-- the records so far are measured, each of at most 72 bytes
abbrev pub invariant-loop-i : goal.invariant-loop-i
invariant-loop-i l = (l.length ≡ length (flat_map record_bytes (take l.i l.table.rows))) × (l.length ≤ l.i * 72)
