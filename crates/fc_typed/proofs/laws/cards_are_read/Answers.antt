use Rattle.fc_typed.proofs.OrderLemmas.{cards_are_read}
use Rattle.fc_typed.proofs.laws.cards_are_read.Goals as goal

pub returns : goal.returns
returns c = cards_are_read
