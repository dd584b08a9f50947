use Rattle.fc_bound.proofs.HeldLemmas.{wins_need}
use Rattle.fc_bound.proofs.laws.wins_need_the_bound.Goals as goal

pub returns : goal.returns
returns c = wins_need
