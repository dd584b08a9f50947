use Rattle.std.proofs.Common.{◌≤◌, sym, ◌∙◌, ap, subst, take, arith}
use Rattle.std.specs.Prelude.{count_by}
use Rattle.std.specs.List.{list_any}
use Rattle.fc_position.specs.Board.{count_in_column}
use Rattle.fc_cards.specs.Card.{all_cards}
use Rattle.fc_bound.specs.Bound.{is_above_lower, is_away}
use Rattle.fc_bound.proofs.CountLemmas.{count-most}
use Rattle.fc_bound.proofs.HeldLemmas.{column_once, held-none, held-more, held-all}
use Rattle.fc_bound.proofs.bounds.bound.Goals as goal

pub loop-i-init : goal.loop-i-init
loop-i-init c = record { counts = omega (arith, c.away-total.ensures.value, held-none) }

pub above_lower-total-requires : goal.above_lower-total-requires
above_lower-total-requires c = record {
  once = λ x. subst (λ cards. count_in_column x cards ≤ 1) (sym c.column.ensures.value)
      (column_once c.args.position.now c.loop-i.i x c.away-total.ensures.whole);
}

pub overflow_add-total : goal.overflow_add-total
overflow_add-total c = omega (
  arith,
  c.loop-i.invariant.counts,
  count-most (is_away c.args.position.now),
  count-most (λ x. list_any (is_above_lower x) (take c.loop-i.i c.args.position.now.columns)),
  c.above_lower-total.ensures.value,
  count-most (λ x. is_above_lower x c.column.result.now),
)

pub loop-i-preserved : goal.loop-i-preserved
loop-i-preserved c =
    let here = c.above_lower-total.ensures.value
    ∙ ap (λ cards. count_by (λ x. is_above_lower x cards) all_cards) c.column.ensures.value in
    let whole = c.away-total.ensures.whole in
    record {
      counts = omega (arith, c.loop-i.invariant.counts, here, held-more c.args.position.now c.loop-i.i whole (omega (arith, whole.columns)));
    }

pub returns-clause-value : goal.returns-clause-value
returns-clause-value c =
    let whole = c.away-total.ensures.whole in
    c.loop-i.invariant.counts ∙ held-all c.args.position.now c.loop-i.i (omega (arith, whole.columns))

pub returns-clause-most : goal.returns-clause-most
returns-clause-most c = omega (
  arith,
  c.loop-i.invariant.counts,
  count-most (is_away c.args.position.now),
  count-most (λ x. list_any (is_above_lower x) (take c.loop-i.i c.args.position.now.columns)),
)

pub returns-clause-whole : goal.returns-clause-whole
returns-clause-whole c = c.away-total.ensures.whole
