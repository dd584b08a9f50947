use Rattle.fc_bound.proofs.KnotLemmas.{knots_no_greater}
use Rattle.fc_bound.proofs.laws.knot_bound_is_no_greater.Goals as goal

pub returns : goal.returns
returns c = knots_no_greater
