use Rattle.fc_home.proofs.KnownLemmas.{goers_stay}
use Rattle.fc_home.proofs.laws.goers_stay.Goals as goal

pub returns : goal.returns
returns c = goers_stay
