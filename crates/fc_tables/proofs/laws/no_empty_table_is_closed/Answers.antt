use Rattle.fc_tables.proofs.RowLemmas.{empty_open}
use Rattle.fc_tables.proofs.laws.no_empty_table_is_closed.Goals as goal

pub returns : goal.returns
returns c = empty_open
