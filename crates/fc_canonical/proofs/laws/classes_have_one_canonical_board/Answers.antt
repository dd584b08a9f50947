use Rattle.fc_canonical.proofs.KeyLemmas.{canonical_once}
use Rattle.fc_canonical.proofs.laws.classes_have_one_canonical_board.Goals as goal

pub returns : goal.returns
returns c = canonical_once
