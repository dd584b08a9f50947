use Rattle.fc_moves.proofs.ClassLemmas.{class_step}
use Rattle.fc_moves.proofs.laws.class_mates_step_alike.Goals as goal

pub returns : goal.returns
returns c = class_step
