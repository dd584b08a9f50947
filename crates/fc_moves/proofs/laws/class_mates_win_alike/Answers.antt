use Rattle.fc_moves.proofs.ClassLemmas.{class_win}
use Rattle.fc_moves.proofs.laws.class_mates_win_alike.Goals as goal

pub returns : goal.returns
returns c = class_win
