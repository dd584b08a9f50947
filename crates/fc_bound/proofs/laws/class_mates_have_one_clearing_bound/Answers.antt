use Rattle.fc_bound.proofs.ClearingOrders.{class_clearing}
use Rattle.fc_bound.proofs.laws.class_mates_have_one_clearing_bound.Goals as goal

pub returns : goal.returns
returns c = class_clearing
