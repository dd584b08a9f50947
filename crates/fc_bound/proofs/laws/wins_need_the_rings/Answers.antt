use Rattle.fc_bound.proofs.RingHeld.{wins_need_rings}
use Rattle.fc_bound.proofs.laws.wins_need_the_rings.Goals as goal

pub returns : goal.returns
returns c = wins_need_rings
