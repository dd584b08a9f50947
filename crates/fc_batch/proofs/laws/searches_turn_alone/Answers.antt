use Rattle.fc_batch.proofs.LawLemmas.{turn_alone}
use Rattle.fc_batch.proofs.laws.searches_turn_alone.Goals as goal

pub returns : goal.returns
returns c = turn_alone
