use Rattle.fc_canonical.proofs.KeyLemmas.{key_begins_once}
use Rattle.fc_canonical.proofs.laws.bytes_begin_with_one_key.Goals as goal

pub returns : goal.returns
returns c = key_begins_once
