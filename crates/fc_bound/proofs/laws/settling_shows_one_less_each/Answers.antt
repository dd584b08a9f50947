use Rattle.fc_bound.proofs.RingLaws.{settling_shows}
use Rattle.fc_bound.proofs.laws.settling_shows_one_less_each.Goals as goal

pub returns : goal.returns
returns c = settling_shows
