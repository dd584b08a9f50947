use Rattle.std.proofs.Common.{◌≡◌, ◌+◌, ◌*◌, ap, arith, refl, subst, sym}
use Rattle.fc_best_first.specs.declared.books.Opening.{Opening}
use Rattle.fc_best_first.specs.Limits.{IsBelowLimit, weigh}
use Rattle.fc_best_first.specs.Store.{PutsOff}
use Rattle.fc_best_first.proofs.OfferLemmas.{off_own, off_within, open_near}
use Rattle.fc_best_first.proofs.offers.put_off.Goals as goal

pub returns-clause-offers : goal.returns-clause-offers
returns-clause-offers g c = λ y opening store at.
    let weight = c.args.strategy.now.weight in
    let mark = c.args.mark.cost in
    let least = c.least.result in
    let later = c.opens_at-f.result in
    let over = ap (λ (o : Opening). o.over) c.new-opening.ensures.value in
    let is : later ≡ weight.parts * mark + weight.times * least = omega (arith, c.opens_at-f.ensures.value, over) in
    let own = off_own weight mark mark least ((g.S.Space.graph c.args.space.now).bound y) later refl (c.least.ensures.least y at) is in
    let below : IsBelowLimit c.args.taken.now.limit (mark + least) = subst (λ b. IsBelowLimit c.args.taken.now.limit (mark + b)) (ap (λ (o : Opening). o.bound) c.new-opening.ensures.value)
    (c.reaches_limit.ensures.below (λ yes. let no = c.if-reaches_limit.false in cc)) in (
      subst (λ e. PutsOff e c.args.taken.now.f (weigh weight mark ((g.S.Space.graph c.args.space.now).bound y)) later)
          (sym c.requires.partial) (let more = c.if-f-taken.false in omega (arith, more), own),
      off_within c.args.taken.now.limit weight mark least later c.opens_at-f.ensures.range.above below is,
      refl,
    )

pub returns-clause-near : goal.returns-clause-near
returns-clause-near g c =
    let near = open_near c.args.strategy.now.weight.parts c.args.taken.now.origin.cost c.args.mark.cost c.new-opening.result.over
    c.opens_at-f.ensures.range.most c.requires.near c.new-opening.ensures.most in
    omega (arith, near, c.opens_at-f.ensures.value)
