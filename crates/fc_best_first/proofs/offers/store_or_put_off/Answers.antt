use Rattle.std.proofs.Common.{◌≡◌, ◌+◌, ◌*◌, ap, arith, refl, subst, sym}
use Rattle.fc_best_first.specs.declared.books.Opening.{Opening}
use Rattle.fc_best_first.specs.Limits.{IsBelowLimit, weigh}
use Rattle.fc_best_first.specs.Store.{PutsOff}
use Rattle.fc_best_first.proofs.OfferLemmas.{off_own, off_within, open_near, reach_more}
use Rattle.fc_best_first.proofs.offers.store_or_put_off.Goals as goal

-- any opening will do where nothing is stored
abbrev no_opening : Opening
no_opening = record { over = 0; bound = 0; note = 0 }

pub returns-then-reaches_limit-clause-offers : goal.returns-then-reaches_limit-clause-offers
returns-then-reaches_limit-clause-offers g c =
    let graph = g.S.Space.graph c.args.space.now in
    let noted = c.noted-noted.result in
    let under = (g.met.S.Space.lawful c.args.space.now).shown c.args.met.0 noted.bound noted.note c.noted-noted.ensures.shown in (
      no_opening,
      (
        reach_more c.args.taken.now.limit (c.args.met.1.cost + noted.bound) (c.args.met.1.cost + graph.bound c.args.met.0) (omega (arith, under))
            (c.reaches_limit.ensures.value.0 c.if-reaches_limit.true),
        refl,
      ),
    )

pub returns-then-f-taken-clause-offers : goal.returns-then-f-taken-clause-offers
returns-then-f-taken-clause-offers g c =
    let graph = g.S.Space.graph c.args.space.now in
    let weight = c.args.strategy.now.weight in
    let mark = c.args.met.1.cost in
    let noted = c.noted-noted.result in
    let later = c.opens_at-f.result in
    let under = (g.met.S.Space.lawful c.args.space.now).shown c.args.met.0 noted.bound noted.note c.noted-noted.ensures.shown in
    let over = ap (λ (o : Opening). o.over) c.new-opening.ensures.value in
    let is : later ≡ weight.parts * mark + weight.times * noted.bound = omega (arith, c.opens_at-f.ensures.value, over) in
    let own = off_own weight mark mark noted.bound (graph.bound c.args.met.0) later refl under is in
    let below = c.if-reaches_limit.ensures.below (λ yes. let no = c.if-reaches_limit.false in cc) in (
      no_opening,
      (
        subst (λ e. PutsOff e c.args.taken.now.f (weigh weight mark (graph.bound c.args.met.0)) later)
            (sym c.in-Partial-expansion.is) (let more = c.if-f-taken.true in omega (arith, more), own),
        off_within c.args.taken.now.limit weight mark noted.bound later c.opens_at-f.ensures.range.above below is,
        refl,
      ),
    )

pub returns-then-f-taken-clause-near : goal.returns-then-f-taken-clause-near
returns-then-f-taken-clause-near g c =
    let near = open_near c.args.strategy.now.weight.parts c.args.taken.now.origin.cost c.args.met.1.cost c.new-opening.result.over
    c.opens_at-f.ensures.range.most c.requires.near c.new-opening.ensures.most in
    omega (arith, near, c.opens_at-f.ensures.value)
