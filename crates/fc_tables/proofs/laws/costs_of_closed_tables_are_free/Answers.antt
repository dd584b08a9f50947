use Rattle.fc_tables.proofs.RowLemmas.{costs_free}
use Rattle.fc_tables.proofs.laws.costs_of_closed_tables_are_free.Goals as goal

pub returns : goal.returns
returns c = costs_free
