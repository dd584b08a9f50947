use Rattle.std.proofs.Common.{◌≡◌, true, sym, ◌∙◌, ap, subst, arith}
use Rattle.std.specs.List.{list_any}
use Rattle.fc_position.specs.Board.{last_of}
use Rattle.fc_bound.specs.Clearing.{cards_in}
use Rattle.fc_bound.specs.Knots.{has_last, is_in_knot, knot_count, without_last_where}
use Rattle.fc_bound.specs.inner.Rows.{AreLow, ends_in, waiting_in}
use Rattle.fc_bound.proofs.KnotSteps.{count_is, knots_few, shed_knot}
use Rattle.fc_bound.proofs.LeftLemmas.{shed_same}
use Rattle.fc_bound.proofs.LowKept.{low_kept}
use Rattle.fc_bound.proofs.WaitingLemmas.{count_knot, count_none, waiting_counts, waiting_tight}
use Rattle.fc_bound.proofs.knots.knots_within.Goals as goal

pub returns-then-not-has_cards-clause-lower : goal.returns-then-not-has_cards-clause-lower
returns-then-not-has_cards-clause-lower c =
    omega (arith, c.loop-count.invariant.counts, waiting_counts c.loop-count.left)

pub returns-then-not-has_cards-clause-exact : goal.returns-then-not-has_cards-clause-exact
returns-then-not-has_cards-clause-exact c = λ _.
    let none = count_none c.loosen-lows.new.left c.loosen-lows.ensures.tight (sym c.has_cards.ensures.value ∙ c.if-not-has_cards.true) in
    omega (arith, c.loop-count.invariant.counts, c.loosen-lows.ensures.count, none.0, none.1)

pub returns-then-not-has_cards-clause-greatest : goal.returns-then-not-has_cards-clause-greatest
returns-then-not-has_cards-clause-greatest c =
    let s = c.args.left.now in
    omega (
      arith,
      c.loop-count.invariant.counts,
      waiting_counts c.loop-count.left,
      knots_few (cards_in s) s,
      count_is s,
      c.requires.few,
    )

pub overflow_add-count : goal.overflow_add-count
overflow_add-count c =
    let s = c.args.left.now in
    omega (
      arith,
      c.loop-count.invariant.counts,
      waiting_counts c.loop-count.left,
      knots_few (cards_in s) s,
      count_is s,
      c.requires.few,
    )

pub loop-count-smaller : goal.loop-count-smaller
loop-count-smaller c =
    let v = c.loosen-lows.new.left in
    let taken : c.shed.new.self ≡ without_last_where (is_in_knot v) v =
    c.shed.ensures.value ∙ shed_same (λ x. ends_in c.knot-knot.result (last_of x)) (is_in_knot v) v c.knot-knot.ensures.value.each in
    omega (arith, c.loosen-lows.ensures.fewer, shed_knot v (sym c.has_cards.ensures.value ∙ c.if-not-has_cards.false), ap cards_in taken)

pub loop-count-preserved : goal.loop-count-preserved
loop-count-preserved c =
    let v = c.loosen-lows.new.left in
    let taken : c.shed.new.self ≡ without_last_where (is_in_knot v) v =
    c.shed.ensures.value ∙ shed_same (λ x. ends_in c.knot-knot.result (last_of x)) (is_in_knot v) v c.knot-knot.ensures.value.each in
    let some_last : list_any (λ column. has_last (last_of column)) v ≡ true = sym c.has_cards.ensures.value ∙ c.if-not-has_cards.false in
    record {
      low = subst (AreLow c.loosen-lows.result) (sym taken) (low_kept v c.loosen-lows.result (is_in_knot v) c.loosen-lows.ensures.tight c.loosen-lows.ensures.lows);
      counts = omega (
        arith,
        c.loop-count.invariant.counts,
        c.loosen-lows.ensures.count,
        count_knot v c.loosen-lows.ensures.tight some_last,
        waiting_tight v c.loosen-lows.ensures.tight,
        ap knot_count taken,
        ap waiting_in taken,
      );
    }

pub returns-clause-lower : goal.returns-clause-lower
returns-clause-lower c =
    omega (arith, c.loop-count.invariant.counts, waiting_counts c.loop-count.left)

pub returns-clause-greatest : goal.returns-clause-greatest
returns-clause-greatest c =
    let s = c.args.left.now in
    omega (
      arith,
      c.loop-count.invariant.counts,
      waiting_counts c.loop-count.left,
      knots_few (cards_in s) s,
      count_is s,
      c.requires.few,
    )
