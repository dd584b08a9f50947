use Rattle.fc_bound.proofs.RingCosts.{rings_cost_each}
use Rattle.fc_bound.proofs.laws.rings_cost_one_each.Goals as goal

pub returns : goal.returns
returns c = rings_cost_each
