use Rattle.fc_bound.proofs.HeldLemmas.{class_bound}
use Rattle.fc_bound.proofs.laws.class_mates_have_one_bound.Goals as goal

pub returns : goal.returns
returns c = class_bound
