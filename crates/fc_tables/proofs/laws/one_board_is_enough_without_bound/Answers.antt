use Rattle.fc_tables.proofs.LookLemmas.{one_enough_listed}
use Rattle.fc_tables.proofs.laws.one_board_is_enough_without_bound.Goals as goal

pub returns : goal.returns
returns c = one_enough_listed
