use Rattle.std.proofs.Common.{arith}
use Rattle.fc_cert.proofs.FieldLemmas.{number_said}
use Rattle.fc_cert.proofs.fields.split_number.Goals as goal

pub returns-clause-found : goal.returns-clause-found
returns-clause-found c =
    let cases = c.in_ok-here.ensures.cases in
    number_said c.args.bytes.now c.in_ok-here.here.now c.in_ok-here.rest.now c.from_be_bytes.result cases.0 cases.1
    (omega (arith, cases.2)) (λ i. omega (arith, c.type_inv.bytes i)) c.from_be_bytes.ensures
