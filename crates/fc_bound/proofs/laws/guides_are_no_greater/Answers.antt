use Rattle.fc_bound.proofs.KindLemmas.{guides_under}
use Rattle.fc_bound.proofs.laws.guides_are_no_greater.Goals as goal

pub returns : goal.returns
returns c = guides_under
