use Rattle.fc_home.proofs.WayLemmas.{settles_once}
use Rattle.fc_home.proofs.laws.positions_settle_in_one_way.Goals as goal

pub returns : goal.returns
returns c = settles_once
