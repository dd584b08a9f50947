use Rattle.fc_bound.proofs.KnotAbove.{knots_no_less}
use Rattle.fc_bound.proofs.laws.knot_bound_is_no_less.Goals as goal

pub returns : goal.returns
returns c = knots_no_less
