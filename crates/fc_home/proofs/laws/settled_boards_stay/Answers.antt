use Rattle.fc_home.proofs.SettleLemmas.{settled_stays}
use Rattle.fc_home.proofs.laws.settled_boards_stay.Goals as goal

pub returns : goal.returns
returns c = settled_stays
