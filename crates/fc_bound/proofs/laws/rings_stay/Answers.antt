use Rattle.fc_bound.proofs.RingLaws.{rings_stay}
use Rattle.fc_bound.proofs.laws.rings_stay.Goals as goal

pub returns : goal.returns
returns c = rings_stay
