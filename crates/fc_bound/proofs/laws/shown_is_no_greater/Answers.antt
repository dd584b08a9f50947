use Rattle.fc_bound.proofs.RingHeld.{shown_under}
use Rattle.fc_bound.proofs.laws.shown_is_no_greater.Goals as goal

pub returns : goal.returns
returns c = shown_under
