use Rattle.fc_tables.proofs.LookLemmas.{one_enough}
use Rattle.fc_tables.proofs.laws.one_board_of_a_class_is_enough.Goals as goal

pub returns : goal.returns
returns c = one_enough
