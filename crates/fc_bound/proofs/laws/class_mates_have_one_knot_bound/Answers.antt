use Rattle.fc_bound.proofs.KnotClass.{class_knots}
use Rattle.fc_bound.proofs.laws.class_mates_have_one_knot_bound.Goals as goal

pub returns : goal.returns
returns c = class_knots
