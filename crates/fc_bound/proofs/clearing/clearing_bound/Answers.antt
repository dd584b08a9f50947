use Rattle.std.proofs.Common.{[], sym, ◌∙◌, ap, subst, arith}
use Rattle.fc_position.proofs.BoardLemmas.{cards_most}
use Rattle.fc_bound.specs.Bound.{is_away}
use Rattle.fc_bound.specs.Clearing.{cards_in, clearing_cost, clearing_bound}
use Rattle.fc_bound.proofs.ClearingLemmas.{clearing_least}
use Rattle.fc_bound.proofs.CountLemmas.{count-most}
use Rattle.fc_bound.proofs.KnotLemmas.{position_cards}
use Rattle.fc_bound.proofs.KnotShed.{AreCards}
use Rattle.fc_bound.proofs.clearing.clearing_bound.Goals as goal

pub count_knots-cost-requires-clause-few : goal.count_knots-cost-requires-clause-few
count_knots-cost-requires-clause-few c =
    let all = ap cards_in c.new-left.ensures.value in
    omega (arith, all, cards_most c.args.position.now c.away-away.ensures.whole)

pub count_knots-cost-requires-clause-cards : goal.count_knots-cost-requires-clause-cards
count_knots-cost-requires-clause-cards c =
    subst AreCards (sym c.new-left.ensures.value) (position_cards c.args.position.now c.away-away.ensures.whole)

pub costs_at_most-requires-clause-few : goal.costs_at_most-requires-clause-few
costs_at_most-requires-clause-few c =
    let all = ap cards_in (c.copy.ensures.value ∙ c.new-left.ensures.value) in
    omega (arith, all, cards_most c.args.position.now c.away-away.ensures.whole)

pub costs_at_most-requires-clause-cards : goal.costs_at_most-requires-clause-cards
costs_at_most-requires-clause-cards c =
    subst AreCards (sym (c.copy.ensures.value ∙ c.new-left.ensures.value)) (position_cards c.args.position.now c.away-away.ensures.whole)

pub overflow_add-result : goal.overflow_add-result
overflow_add-result c =
    omega (arith, c.away-away.ensures.value, count-most (is_away c.args.position.now), c.loop-cost-test.true)

pub returns-then-costs_at_most-clause-value : goal.returns-then-costs_at_most-clause-value
unfolding clearing_bound
returns-then-costs_at_most-clause-value c =
    let same = ap clearing_cost c.new-left.ensures.value in
    let copied = ap clearing_cost c.copy.ensures.value in
    let most = c.costs_at_most.ensures.value.0 c.if-costs_at_most.true in
    omega (arith, c.away-away.ensures.value, same, copied, most, c.loop-cost.invariant)

pub returns-then-costs_at_most-clause-most : goal.returns-then-costs_at_most-clause-most
returns-then-costs_at_most-clause-most c =
    omega (arith, c.away-away.ensures.value, count-most (is_away c.args.position.now), c.loop-cost-test.true)

pub overflow_add-result-2 : goal.overflow_add-result-2
overflow_add-result-2 c = omega (arith, c.away-away.ensures.value, count-most (is_away c.args.position.now))

pub returns-clause-value : goal.returns-clause-value
unfolding clearing_bound
returns-clause-value c =
    let same = ap clearing_cost c.new-left.ensures.value in
    omega (
      arith,
      c.away-away.ensures.value,
      same,
      c.loop-cost.invariant,
      c.loop-cost-test.false,
      clearing_least c.args.position.now.columns [],
      cards_most c.args.position.now c.away-away.ensures.whole,
    )

pub returns-clause-most : goal.returns-clause-most
returns-clause-most c = omega (arith, c.away-away.ensures.value, count-most (is_away c.args.position.now))
