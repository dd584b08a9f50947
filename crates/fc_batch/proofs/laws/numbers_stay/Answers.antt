use Rattle.fc_batch.proofs.LawLemmas.{numbers_stay as stay}
use Rattle.fc_batch.proofs.laws.numbers_stay.Goals as goal

pub returns : goal.returns
returns c = stay
