use Rattle.fc_tables.proofs.WitnessLemmas.{need_positions}
use Rattle.fc_tables.proofs.laws.closed_tables_need_positions.Goals as goal

pub returns : goal.returns
returns c = need_positions
