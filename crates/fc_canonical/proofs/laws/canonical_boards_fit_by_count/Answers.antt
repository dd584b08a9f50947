use Rattle.fc_canonical.proofs.FitLemmas.{fits_by_count}
use Rattle.fc_canonical.proofs.laws.canonical_boards_fit_by_count.Goals as goal

pub returns : goal.returns
returns c = fits_by_count
