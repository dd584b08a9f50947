use Rattle.fc_typed.proofs.StayLemmas.{grow_by_half}
use Rattle.fc_typed.proofs.laws.tidy_texts_grow_by_half.Goals as goal

pub returns : goal.returns
returns c = grow_by_half
