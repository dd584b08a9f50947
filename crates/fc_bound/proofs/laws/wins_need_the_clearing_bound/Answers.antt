use Rattle.fc_bound.proofs.ClearingSteps.{wins_clear}
use Rattle.fc_bound.proofs.laws.wins_need_the_clearing_bound.Goals as goal

pub returns : goal.returns
returns c = wins_clear
