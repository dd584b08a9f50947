use Rattle.std.proofs.Common.{Err}
use Rattle.std.specs.Option.{option_copied}
use Rattle.fc_cert.specs.Reading.{ReadsRecord}
use Rattle.fc_cert.proofs.FieldLemmas.{passed_on}
use Rattle.fc_cert.proofs.certificate_readers.read_record.Goals as goal

pub returns-in_err-cost-clause-fault : goal.returns-in_err-cost-clause-fault
returns-in_err-cost-clause-fault c =
    passed_on (λ f. ReadsRecord c.args.head.now.cells c.args.head.now.kind c.args.number (option_copied c.args.before) c.args.bytes.now (Err f))
    c.from_residual.result c.in_err-cost.field-0.0 c.from_residual.ensures.1
    (c.in_err-cost.ensures.fault c.args.head.now.kind (option_copied c.args.before))
