use Rattle.std.proofs.Common.{◌≡◌, refl, sym, ◌∙◌, arith}
use Rattle.fc_bound.specs.declared.kinds.BoundKind.TheVariants.{Clearing}
use Rattle.fc_bound.proofs.FareLemmas.{guide_lifted, guide_small}
use Rattle.fc_bound.proofs.fares.knots_after.Goals as goal

pub overflow_add-result : goal.overflow_add-result
overflow_add-result c =
    let b = c.args.position.now in
    omega (arith, c.requires.bound, c.in_ok-more.ensures.most, guide_small Clearing b c.fare.ensures.whole)

pub returns-clause-value : goal.returns-clause-value
returns-clause-value c g z step away =
    let b = c.args.position.now in
    let m = c.args.m in
    let same : step.card ≡ c.in_ok-card.card =
    let x = sym step.playable ∙ sym c.playable.ensures.value ∙ c.in_ok-card.was in cc in
    let lifted_same = guide_lifted Clearing g b z m step away in
    let before = c.in_ok-fare.ensures.fare in
    let after = c.in_ok-more.ensures.fare g z m step same refl in
    omega (arith, c.requires.bound, before, after, lifted_same)
