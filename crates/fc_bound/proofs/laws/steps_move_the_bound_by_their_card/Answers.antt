use Rattle.fc_bound.proofs.HeldLemmas.{step_moves}
use Rattle.fc_bound.proofs.laws.steps_move_the_bound_by_their_card.Goals as goal

pub returns : goal.returns
returns c = step_moves
