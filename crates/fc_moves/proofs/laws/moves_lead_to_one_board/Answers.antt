use Rattle.fc_moves.proofs.StepLemmas.{step_once}
use Rattle.fc_moves.proofs.laws.moves_lead_to_one_board.Goals as goal

pub returns : goal.returns
returns c = λ g b x y m. step_once g b m x y
