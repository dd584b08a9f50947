use Rattle.fc_tables.proofs.TableLemmas.{closed_never}
use Rattle.fc_tables.proofs.laws.closed_leaves_no_list.Goals as goal

pub returns : goal.returns
returns c = closed_never
