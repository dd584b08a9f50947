use Rattle.fc_typed.proofs.OrderLemmas.{homes_are_read}
use Rattle.fc_typed.proofs.laws.homes_are_read.Goals as goal

pub returns : goal.returns
returns c = homes_are_read
