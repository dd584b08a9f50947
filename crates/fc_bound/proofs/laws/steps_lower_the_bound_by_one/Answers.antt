use Rattle.fc_bound.proofs.HeldLemmas.{step_lowers}
use Rattle.fc_bound.proofs.laws.steps_lower_the_bound_by_one.Goals as goal

pub returns : goal.returns
returns c = step_lowers
