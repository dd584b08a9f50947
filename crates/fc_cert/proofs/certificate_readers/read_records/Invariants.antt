use Rattle.std.proofs.Common.{◌-◌, None}
use Rattle.std.specs.Option.{option_copied}
use Rattle.fc_cert.specs.Reading.{ReadsRecord, ReadsRecords}
use Rattle.fc_cert.proofs.FieldLemmas.{LeadsTo}
use Rattle.fc_cert.proofs.certificate_readers.read_records.Given as goal

-- each end of reading from here on is one of reading from the start
abbrev pub invariant-loop-number : goal.invariant-loop-number
invariant-loop-number l =
    LeadsTo (ReadsRecords (ReadsRecord l.head.cells l.head.kind) (l.count - l.number) l.number (option_copied l.before) l.rest)
    (ReadsRecords (ReadsRecord l.head.cells l.head.kind) l.count 0 None l.bytes)
