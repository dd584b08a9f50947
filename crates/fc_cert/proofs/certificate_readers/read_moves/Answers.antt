use Rattle.std.proofs.Common.{Err}
use Rattle.fc_cert.specs.Reading.{ReadsMoves}
use Rattle.fc_cert.proofs.FieldLemmas.{passed_on}
use Rattle.fc_cert.proofs.ReadingLemmas.{moves_start, moves_more, moves_stop, moves_end}
use Rattle.fc_cert.proofs.certificate_readers.read_moves.Goals as goal

pub loop-i-init : goal.loop-i-init
loop-i-init c = moves_start c.args.count c.args.bytes.now

pub returns-in_err-rest-clause-fault : goal.returns-in_err-rest-clause-fault
returns-in_err-rest-clause-fault c =
    passed_on (λ f. ReadsMoves c.args.count 1 c.args.bytes.now (Err f)) c.from_residual.result c.in_err-rest.field-0.0
    c.from_residual.ensures.1
    (moves_stop c.args.count c.loop-i.i c.args.bytes.now c.loop-i.rest.now c.in_err-rest.field-0.0 c.loop-i-test.true
    c.loop-i.invariant c.in_err-rest.ensures.fault)

pub loop-i-preserved : goal.loop-i-preserved
loop-i-preserved c =
    let m = c.in_ok-rest.ensures.read in
    moves_more c.args.count c.loop-i.i c.args.bytes.now c.loop-i.rest.now c.in_ok-rest.rest.now m.0 c.loop-i-test.true
    c.loop-i.invariant m.1

pub returns-clause-read : goal.returns-clause-read
returns-clause-read c =
    moves_end c.args.count c.loop-i.i c.args.bytes.now c.loop-i.rest.now c.loop-i-test.false c.loop-i.invariant
