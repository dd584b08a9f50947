use Rattle.std.proofs.Common.{Err, None}
use Rattle.std.specs.Option.{option_copied}
use Rattle.fc_cert.specs.Reading.{ReadsRecord, ReadsRecords}
use Rattle.fc_cert.proofs.FieldLemmas.{passed_on}
use Rattle.fc_cert.proofs.ReadingLemmas.{records_start, records_more, records_stop, records_end}
use Rattle.fc_cert.proofs.certificate_readers.read_records.Goals as goal

pub loop-number-init : goal.loop-number-init
loop-number-init c = records_start c.args.head.now.cells c.args.head.now.kind c.args.count c.args.bytes.now

pub returns-in_err-key-clause-fault : goal.returns-in_err-key-clause-fault
returns-in_err-key-clause-fault c =
    passed_on (λ f. ReadsRecords (ReadsRecord c.args.head.now.cells c.args.head.now.kind) c.args.count 0 None c.args.bytes.now (Err f))
    c.from_residual.result c.in_err-key.field-0.0 c.from_residual.ensures.1
    (records_stop c.args.head.now.cells c.args.head.now.kind c.args.count c.loop-number.number
    (option_copied c.loop-number.before) c.args.bytes.now c.loop-number.rest.now c.in_err-key.field-0.0 c.loop-number-test.true
    c.loop-number.invariant c.in_err-key.ensures.fault)

pub loop-number-preserved : goal.loop-number-preserved
loop-number-preserved c =
    let row = c.in_ok-key.ensures.read in
    records_more c.args.head.now.cells c.args.head.now.kind c.args.count c.loop-number.number (option_copied c.loop-number.before)
    c.args.bytes.now c.loop-number.rest.now c.in_ok-key.after.now c.in_ok-key.key.now row.0 c.loop-number-test.true
    c.loop-number.invariant row.1

pub returns-clause-read : goal.returns-clause-read
returns-clause-read c =
    records_end c.args.head.now.cells c.args.head.now.kind c.args.count c.loop-number.number (option_copied c.loop-number.before)
    c.args.bytes.now c.loop-number.rest.now c.loop-number-test.false c.loop-number.invariant
