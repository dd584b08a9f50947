use Rattle.fc_moves.proofs.StepLemmas.{step_keeps}
use Rattle.fc_moves.proofs.laws.steps_keep_positions.Goals as goal

pub returns : goal.returns
returns c = step_keeps
