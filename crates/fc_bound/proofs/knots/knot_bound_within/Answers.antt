use Rattle.std.proofs.Common.{arith}
use Rattle.fc_bound.specs.Bound.{is_away}
use Rattle.fc_bound.specs.Knots.{knot_bound}
use Rattle.fc_bound.proofs.CountLemmas.{count-most}
use Rattle.fc_bound.proofs.knots.knot_bound_within.Goals as goal

pub returns-then-most-away : goal.returns-then-most-away
unfolding knot_bound
returns-then-most-away c = record {
  lower = omega (arith, c.away-away.ensures.value);
  exact = λ within. absurd (omega (arith, within, c.if-most-away.true));
  greatest = omega (arith, c.away-away.ensures.value, count-most (is_away c.args.position.now));
  whole = c.away-away.ensures.whole;
}
