use Rattle.fc_codes.proofs.LandedLemmas.{moves_change}
use Rattle.fc_codes.proofs.laws.moves_change_one_state.Goals as goal

pub returns : goal.returns
returns c = moves_change
