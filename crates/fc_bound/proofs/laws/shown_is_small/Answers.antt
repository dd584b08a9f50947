use Rattle.fc_bound.proofs.RingHeld.{shown_small}
use Rattle.fc_bound.proofs.laws.shown_is_small.Goals as goal

pub returns : goal.returns
returns c = shown_small
