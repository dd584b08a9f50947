use Rattle.fc_canonical.proofs.SpelledLemmas.{front_extent}
use Rattle.fc_canonical.proofs.laws.fronts_have_their_extent.Goals as goal

pub returns : goal.returns
returns c = front_extent
