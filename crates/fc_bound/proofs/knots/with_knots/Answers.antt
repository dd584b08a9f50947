use Rattle.std.proofs.Common.{ap, arith}
use Rattle.fc_position.proofs.BoardLemmas.{cards_most}
use Rattle.fc_bound.specs.Bound.{is_away}
use Rattle.fc_bound.specs.Clearing.{cards_in}
use Rattle.fc_bound.specs.Knots.{knot_count, knot_bound}
use Rattle.fc_bound.proofs.CountLemmas.{count-most}
use Rattle.fc_bound.proofs.knots.with_knots.Goals as goal

pub knots_within-requires : goal.knots_within-requires
knots_within-requires c =
    let all = ap cards_in c.new-left.ensures.value in
    record { few = omega (arith, all, cards_most c.args.position.now c.requires.whole) }

pub overflow_add-result : goal.overflow_add-result
overflow_add-result c =
    omega (arith, c.requires.away, count-most (is_away c.args.position.now), c.knots_within.ensures.greatest)

pub returns : goal.returns
unfolding knot_bound
returns c =
    let all = ap knot_count c.new-left.ensures.value in
    record {
      lower = omega (arith, c.requires.away, c.knots_within.ensures.lower, all);
      exact = λ within.
          let exact = c.knots_within.ensures.exact (omega (arith, within, c.requires.away, c.requires.within)) in
          omega (arith, c.requires.away, exact, all);
      greatest = omega (arith, c.requires.away, count-most (is_away c.args.position.now), c.knots_within.ensures.greatest);
    }
