use Rattle.fc_home.proofs.EveryLemmas.{every_settles}
use Rattle.fc_home.proofs.laws.every_board_settles.Goals as goal

pub returns : goal.returns
returns c = every_settles
