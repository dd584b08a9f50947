use Rattle.fc_bound.proofs.RingHeld.{no_less}
use Rattle.fc_bound.proofs.laws.clearing_is_no_less.Goals as goal

pub returns : goal.returns
returns c = no_less
