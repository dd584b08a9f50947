use Rattle.fc_bound.proofs.HeldLemmas.{bound_small}
use Rattle.fc_bound.proofs.laws.bounds_are_small.Goals as goal

pub returns : goal.returns
returns c = bound_small
