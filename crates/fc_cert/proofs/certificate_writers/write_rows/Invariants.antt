use Rattle.std.proofs.Common.{◌++◌, length, take}
use Rattle.std.specs.List.{flat_map}
use Rattle.fc_cert.specs.Content.{four_bytes, record_bytes}
use Rattle.fc_cert.specs.inner.Writing.{Gathers}
use Rattle.fc_cert.proofs.certificate_writers.write_rows.Given as goal

-- the count and the records so far are written or gathered
abbrev pub invariant-loop-i : goal.invariant-loop-i
invariant-loop-i g l =
    Gathers (record { held = g.K.Sink.held l.fn.sink; has_failed = g.K.Sink.has_failed l.fn.sink })
    (record { held = g.K.Sink.held l.sink; has_failed = g.K.Sink.has_failed l.sink })
    l.piece.items
    (four_bytes (length l.table.rows) ++ flat_map record_bytes (take l.i l.table.rows))
