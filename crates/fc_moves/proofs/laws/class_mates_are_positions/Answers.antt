use Rattle.fc_moves.proofs.ClassLemmas.{class_positions}
use Rattle.fc_moves.proofs.laws.class_mates_are_positions.Goals as goal

pub returns : goal.returns
returns c = class_positions
