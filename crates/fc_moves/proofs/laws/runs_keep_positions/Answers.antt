use Rattle.fc_moves.proofs.StepLemmas.{run_keeps}
use Rattle.fc_moves.proofs.laws.runs_keep_positions.Goals as goal

pub returns : goal.returns
returns c = run_keeps
