use Rattle.fc_bound.proofs.ClearingTied.{tied_first}
use Rattle.fc_bound.proofs.laws.one_of_the_tied_goes_first.Goals as goal

pub returns : goal.returns
returns c = tied_first
