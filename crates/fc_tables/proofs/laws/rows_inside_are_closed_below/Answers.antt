use Rattle.fc_tables.proofs.RowLemmas.{rows_inside}
use Rattle.fc_tables.proofs.laws.rows_inside_are_closed_below.Goals as goal

pub returns : goal.returns
returns c = rows_inside
