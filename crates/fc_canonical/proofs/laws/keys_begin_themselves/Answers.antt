use Rattle.fc_canonical.proofs.SpelledLemmas.{key_begins}
use Rattle.fc_canonical.proofs.laws.keys_begin_themselves.Goals as goal

pub returns : goal.returns
returns c = key_begins
