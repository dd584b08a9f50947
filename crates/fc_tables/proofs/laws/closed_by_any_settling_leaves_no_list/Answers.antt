use Rattle.fc_tables.proofs.TableLemmas.{any_never}
use Rattle.fc_tables.proofs.laws.closed_by_any_settling_leaves_no_list.Goals as goal

pub returns : goal.returns
returns c = any_never
