use Rattle.fc_bound.proofs.ClearingLemmas.{cost_least}
use Rattle.fc_bound.proofs.laws.clearing_costs_are_least.Goals as goal

pub returns : goal.returns
returns c = cost_least
