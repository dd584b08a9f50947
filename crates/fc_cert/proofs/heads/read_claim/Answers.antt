use Rattle.std.proofs.Common.{Ok, Err, refl}
use Rattle.fc_cert.specs.Reading.{ReadsClaim}
use Rattle.fc_cert.proofs.FieldLemmas.{passed_on}
use Rattle.fc_cert.proofs.heads.read_claim.Goals as goal

pub returns-in_err-kind-clause-fault : goal.returns-in_err-kind-clause-fault
returns-in_err-kind-clause-fault c =
    let f = c.in_err-kind.field-0.0 in
    passed_on (λ f. ReadsClaim c.args.form c.args.bytes.now (Err f)) c.from_residual.result f c.from_residual.ensures.1
    (Err f, c.in_err-kind.ensures.fault, refl)

pub returns-in_err-floor-clause-fault : goal.returns-in_err-floor-clause-fault
returns-in_err-floor-clause-fault c =
    let f = c.in_err-floor.field-0.0 in
    let kind = c.in_ok-kind in
    passed_on (λ f. ReadsClaim c.args.form c.args.bytes.now (Err f)) c.from_residual-in_err-floor.result f
    c.from_residual-in_err-floor.ensures.1
    (Ok (kind.kind, kind.rest.now), kind.ensures.read, (Err f, c.in_err-floor.ensures.fault, refl))

pub returns-clause-read : goal.returns-clause-read
returns-clause-read c =
    let kind = c.in_ok-kind in
    let floor = c.in_ok-floor in (
      Ok (kind.kind, kind.rest.now),
      kind.ensures.read,
      (Ok (floor.floor, floor.rest.now), floor.ensures.read, refl),
    )
