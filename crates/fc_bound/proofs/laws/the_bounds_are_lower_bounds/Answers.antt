use Rattle.fc_bound.proofs.KindLemmas.{bounds_lower}
use Rattle.fc_bound.proofs.laws.the_bounds_are_lower_bounds.Goals as goal

pub returns : goal.returns
returns c = bounds_lower
