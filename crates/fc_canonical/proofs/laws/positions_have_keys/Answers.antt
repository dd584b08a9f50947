use Rattle.fc_canonical.proofs.SortLemmas.{has_key}
use Rattle.fc_canonical.proofs.laws.positions_have_keys.Goals as goal

pub returns : goal.returns
returns c = has_key
