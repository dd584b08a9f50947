use Rattle.std.proofs.Common.{Ok, Err, sym, subst}
use Rattle.fc_moves.specs.GameRules.{IsPositionOf}
use Rattle.fc_cert.specs.Claim.{IsCertificate}
use Rattle.fc_cert.proofs.CertifiedLemmas.{certificates_true}
use Rattle.fc_checker.specs.Check.{IsCheckFault}
use Rattle.fc_checker.proofs.ClosedLemmas.{proof_certifies}
use Rattle.fc_checker.proofs.FaultLemmas.{passed_on}
use Rattle.fc_checker.proofs.LawLemmas.{exactly, exactly_passed}
use Rattle.fc_checker.proofs.certificate_checks.check.Goals as goal

pub returns-in-Err-clause-fault : goal.returns-in-Err-clause-fault
returns-in-Err-clause-fault g c =
    c.fault_of.ensures.value (g.G.Game.game c.args.game.now) c.args.position.now c.args.bytes.now c.in-Err.ensures.fault

pub returns-in-Err-clause-exact : goal.returns-in-Err-clause-exact
returns-in-Err-clause-exact g c =
    let rules = g.G.Game.game c.args.game.now in
    let fault = c.fault_of.ensures.value rules c.args.position.now c.args.bytes.now c.in-Err.ensures.fault in
    λ claimed is. exactly rules c.args.position.now c.args.bytes.now claimed (Err c.fault_of.result) tt fault is

pub returns-in_err-check_content-clause-fault : goal.returns-in_err-check_content-clause-fault
returns-in_err-check_content-clause-fault g c =
    passed_on (IsCheckFault (g.G.Game.game c.args.game.now) c.args.position.now c.args.bytes.now) c.from_residual.result
    c.in_err-check_content.field-0.0 c.from_residual.ensures.1
    (c.in_err-check_content.ensures.fault.1 c.args.bytes.now c.in-Ok.ensures.read)

pub returns-in_err-check_content-clause-exact : goal.returns-in_err-check_content-clause-exact
returns-in_err-check_content-clause-exact g c =
    λ claimed is. exactly_passed (g.G.Game.game c.args.game.now) c.args.position.now c.args.bytes.now claimed c.from_residual.result
    c.in_err-check_content.field-0.0 c.from_residual.ensures.1
    (c.in_err-check_content.ensures.fault.1 c.args.bytes.now c.in-Ok.ensures.read) is

pub returns-clause-accepted : goal.returns-clause-accepted
returns-clause-accepted g c =
    let rules = g.G.Game.game c.args.game.now in
    let b = c.args.position.now in
    let pb : IsPositionOf rules b = record { position = c.in_ok-check_content.ensures.whole; fits = c.requires.fits } in
    subst (IsCertificate rules b c.args.bytes.now) (sym c.claim_of.ensures.value)
    (proof_certifies rules b c.args.bytes.now c.in-Ok.certificate pb c.in-Ok.ensures.read c.in_ok-check_content.ensures.proof)

pub returns-clause-proves : goal.returns-clause-proves
returns-clause-proves g c =
    let rules = g.G.Game.game c.args.game.now in
    let b = c.args.position.now in
    let pb : IsPositionOf rules b = record { position = c.in_ok-check_content.ensures.whole; fits = c.requires.fits } in
    certificates_true rules b c.args.bytes.now c.claim_of.result pb
    (subst (IsCertificate rules b c.args.bytes.now) (sym c.claim_of.ensures.value)
    (proof_certifies rules b c.args.bytes.now c.in-Ok.certificate pb c.in-Ok.ensures.read c.in_ok-check_content.ensures.proof))

pub returns-clause-exact : goal.returns-clause-exact
returns-clause-exact g c =
    let rules = g.G.Game.game c.args.game.now in
    let b = c.args.position.now in
    let pb : IsPositionOf rules b = record { position = c.in_ok-check_content.ensures.whole; fits = c.requires.fits } in
    λ claimed is. exactly rules b c.args.bytes.now claimed (Ok c.claim_of.result)
    (subst (IsCertificate rules b c.args.bytes.now) (sym c.claim_of.ensures.value)
    (proof_certifies rules b c.args.bytes.now c.in-Ok.certificate pb c.in-Ok.ensures.read c.in_ok-check_content.ensures.proof)) tt is
