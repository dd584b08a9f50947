use Rattle.fc_home.proofs.LossLemmas.{settle_loses_nothing}
use Rattle.fc_home.proofs.laws.settling_loses_nothing.Goals as goal

pub returns : goal.returns
returns c = settle_loses_nothing
