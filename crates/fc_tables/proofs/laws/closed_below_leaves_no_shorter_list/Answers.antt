use Rattle.fc_tables.proofs.TableLemmas.{below_long}
use Rattle.fc_tables.proofs.laws.closed_below_leaves_no_shorter_list.Goals as goal

pub returns : goal.returns
returns c = below_long
