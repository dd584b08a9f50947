use Rattle.std.proofs.Common.{◌+◌, ◌-◌}
use Rattle.fc_cert.specs.Reading.{ReadsMoves}
use Rattle.fc_cert.proofs.FieldLemmas.{LeadsTo}
use Rattle.fc_cert.proofs.certificate_readers.read_moves.Given as goal

-- each end of reading from here on is one of reading from the start
abbrev pub invariant-loop-i : goal.invariant-loop-i
invariant-loop-i l = LeadsTo (ReadsMoves (l.count - l.i) (l.i + 1) l.rest) (ReadsMoves l.count 1 l.bytes)
