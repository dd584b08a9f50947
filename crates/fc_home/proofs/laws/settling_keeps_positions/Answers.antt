use Rattle.fc_home.proofs.SettleLemmas.{settles_keep}
use Rattle.fc_home.proofs.laws.settling_keeps_positions.Goals as goal

pub returns : goal.returns
returns c = settles_keep
