use Rattle.fc_tables.proofs.RowLemmas.{inside_all}
use Rattle.fc_tables.proofs.laws.closed_inside_all_is_closed.Goals as goal

pub returns : goal.returns
returns c = inside_all
