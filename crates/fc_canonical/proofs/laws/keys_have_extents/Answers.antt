use Rattle.fc_canonical.proofs.KeyLemmas.{key_extents}
use Rattle.fc_canonical.proofs.laws.keys_have_extents.Goals as goal

pub returns : goal.returns
returns c = key_extents
