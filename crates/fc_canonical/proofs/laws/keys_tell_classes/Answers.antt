use Rattle.fc_canonical.proofs.KeyLemmas.{keys_tell}
use Rattle.fc_canonical.proofs.laws.keys_tell_classes.Goals as goal

pub returns : goal.returns
returns c = keys_tell
