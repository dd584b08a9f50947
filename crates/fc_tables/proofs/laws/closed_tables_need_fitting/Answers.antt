use Rattle.fc_tables.proofs.WitnessLemmas.{need_fitting}
use Rattle.fc_tables.proofs.laws.closed_tables_need_fitting.Goals as goal

pub returns : goal.returns
returns c = need_fitting
