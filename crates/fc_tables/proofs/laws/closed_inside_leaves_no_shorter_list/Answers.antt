use Rattle.fc_tables.proofs.TableLemmas.{inside_long}
use Rattle.fc_tables.proofs.laws.closed_inside_leaves_no_shorter_list.Goals as goal

pub returns : goal.returns
returns c = inside_long
