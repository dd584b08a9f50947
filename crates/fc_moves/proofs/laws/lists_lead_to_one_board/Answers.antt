use Rattle.fc_moves.proofs.StepLemmas.{run_once}
use Rattle.fc_moves.proofs.laws.lists_lead_to_one_board.Goals as goal

pub returns : goal.returns
returns c = run_once
