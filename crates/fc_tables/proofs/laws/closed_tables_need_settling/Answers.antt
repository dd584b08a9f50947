use Rattle.fc_tables.proofs.WitnessLemmas.{need_settling}
use Rattle.fc_tables.proofs.laws.closed_tables_need_settling.Goals as goal

pub returns : goal.returns
returns c = need_settling
