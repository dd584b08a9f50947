use Rattle.fc_bound.proofs.RingLaws.{mates_show}
use Rattle.fc_bound.proofs.laws.class_mates_show_the_same.Goals as goal

pub returns : goal.returns
returns c = mates_show
