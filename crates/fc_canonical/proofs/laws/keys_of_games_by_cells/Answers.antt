use Rattle.fc_canonical.proofs.FitLemmas.{keys_by_cells}
use Rattle.fc_canonical.proofs.laws.keys_of_games_by_cells.Goals as goal

pub returns : goal.returns
returns c = keys_by_cells
