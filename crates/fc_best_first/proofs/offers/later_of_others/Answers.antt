use Rattle.std.proofs.Common.{◌≡◌, ◌+◌, ◌*◌, ap, arith}
use Rattle.fc_best_first.specs.declared.books.Mark.{Mark}
use Rattle.fc_best_first.specs.declared.books.Opening.{Opening}
use Rattle.fc_best_first.proofs.OfferLemmas.{off_within, open_near}
use Rattle.fc_best_first.proofs.offers.later_of_others.Goals as goal

pub returns-else-reaches_limit-clause-later : goal.returns-else-reaches_limit-clause-later
returns-else-reaches_limit-clause-later c =
    let weight = c.args.strategy.now.weight in
    let mark = c.onward-mark.result.cost in
    let level : mark ≡ c.args.taken.now.origin.cost + 1 = ap (λ (m : Mark). m.cost) c.onward-mark.ensures.value in
    let all : weight.parts * mark ≡ weight.parts * (c.args.taken.now.origin.cost + 1) = ap (λ n. weight.parts * n) level in
    let over = ap (λ (o : Opening). o.over) c.new-opening.ensures.value in
    let is : c.opens_at-later.result ≡ weight.parts * mark + weight.times * c.args.noted.bound = omega (arith, c.opens_at-later.ensures.value, over) in
    let below = c.reaches_limit.ensures.below (λ yes. let no = c.if-reaches_limit.false in cc) in (
      omega (arith, is, all),
      off_within c.args.taken.now.limit weight mark c.args.noted.bound c.opens_at-later.result c.opens_at-later.ensures.range.above below is,
    )

pub returns-else-reaches_limit-clause-near : goal.returns-else-reaches_limit-clause-near
returns-else-reaches_limit-clause-near c =
    let weight = c.args.strategy.now.weight in
    let mark = c.onward-mark.result.cost in
    let level : mark ≡ c.args.taken.now.origin.cost + 1 = ap (λ (m : Mark). m.cost) c.onward-mark.ensures.value in
    let all : weight.parts * mark ≡ weight.parts * (c.args.taken.now.origin.cost + 1) = ap (λ n. weight.parts * n) level in
    let over = ap (λ (o : Opening). o.over) c.new-opening.ensures.value in
    let near = open_near weight.parts c.args.taken.now.origin.cost mark c.new-opening.result.over
    c.opens_at-later.ensures.range.most c.onward-mark.ensures.near c.new-opening.ensures.most in (
      omega (arith, c.requires.first, c.opens_at-later.ensures.value, over, all, c.opens_at-later.ensures.range.least),
      omega (arith, near, c.opens_at-later.ensures.value),
    )
