use Rattle.std.proofs.Common.{◌++◌, length, take}
use Rattle.std.specs.List.{flat_map}
use Rattle.fc_moves.specs.MoveText.{move_text}
use Rattle.fc_cert.specs.Content.{four_bytes}
use Rattle.fc_cert.specs.Writing.{TakesWhole}
use Rattle.fc_cert.proofs.certificate_writers.write_moves.Given as goal

-- the count and the moves so far are written
abbrev pub invariant-loop-m : goal.invariant-loop-m
invariant-loop-m g l =
    TakesWhole (record { held = g.K.Sink.held l.fn.sink; has_failed = g.K.Sink.has_failed l.fn.sink })
    (record { held = g.K.Sink.held l.sink; has_failed = g.K.Sink.has_failed l.sink })
    (four_bytes (length l.moves) ++ flat_map move_text (take l.m-index l.moves))
