use Rattle.fc_canonical.proofs.FitLemmas.{canonical_fits}
use Rattle.fc_canonical.proofs.laws.canonical_boards_fit.Goals as goal

pub returns : goal.returns
returns c = canonical_fits
