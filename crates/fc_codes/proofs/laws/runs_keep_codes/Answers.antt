use Rattle.fc_codes.proofs.LandedLemmas.{runs_keep}
use Rattle.fc_codes.proofs.laws.runs_keep_codes.Goals as goal

pub returns : goal.returns
returns c = runs_keep
