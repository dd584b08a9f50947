use Rattle.fc_canonical.proofs.KeyLemmas.{key_most}
use Rattle.fc_canonical.proofs.laws.keys_are_short.Goals as goal

pub returns : goal.returns
returns c = key_most
