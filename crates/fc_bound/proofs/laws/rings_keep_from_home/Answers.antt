use Rattle.fc_bound.proofs.RingLaws.{rings_keep}
use Rattle.fc_bound.proofs.laws.rings_keep_from_home.Goals as goal

pub returns : goal.returns
returns c = rings_keep
