use Rattle.fc_bound.proofs.RingLaws.{home_shows}
use Rattle.fc_bound.proofs.laws.home_shows_one_less.Goals as goal

pub returns : goal.returns
returns c = home_shows
