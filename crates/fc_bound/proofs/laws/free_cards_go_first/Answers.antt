use Rattle.fc_bound.proofs.ClearingOrders.{free_first}
use Rattle.fc_bound.proofs.laws.free_cards_go_first.Goals as goal

pub returns : goal.returns
returns c = free_first
