use Rattle.fc_home.proofs.MateLemmas.{class_settle}
use Rattle.fc_home.proofs.laws.class_mates_settle_alike.Goals as goal

pub returns : goal.returns
returns c = class_settle
