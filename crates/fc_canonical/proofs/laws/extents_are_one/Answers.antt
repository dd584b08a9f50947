use Rattle.fc_canonical.proofs.SpelledLemmas.{extent_once}
use Rattle.fc_canonical.proofs.laws.extents_are_one.Goals as goal

pub returns : goal.returns
returns c = extent_once
