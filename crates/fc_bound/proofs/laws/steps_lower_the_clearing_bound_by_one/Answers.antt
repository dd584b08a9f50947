use Rattle.fc_bound.proofs.ClearingSteps.{clearing_lowers}
use Rattle.fc_bound.proofs.laws.steps_lower_the_clearing_bound_by_one.Goals as goal

pub returns : goal.returns
returns c = clearing_lowers
