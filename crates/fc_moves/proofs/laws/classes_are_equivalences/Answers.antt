use Rattle.fc_moves.proofs.ClassLemmas.{class_equivalence}
use Rattle.fc_moves.proofs.laws.classes_are_equivalences.Goals as goal

pub returns : goal.returns
returns c = class_equivalence
