use Rattle.fc_home.proofs.SettleLemmas.{settles_run}
use Rattle.fc_home.proofs.laws.settling_is_a_run.Goals as goal

pub returns : goal.returns
returns c = settles_run
