use Rattle.fc_tables.proofs.TableLemmas.{below_inside}
use Rattle.fc_tables.proofs.laws.closed_below_is_closed_inside.Goals as goal

pub returns : goal.returns
returns c = below_inside
