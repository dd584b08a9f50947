use Rattle.fc_home.proofs.WayLemmas.{settles_by_once}
use Rattle.fc_home.proofs.laws.settling_moves_are_one.Goals as goal

pub returns : goal.returns
returns c = settles_by_once
