use Rattle.fc_tables.proofs.GreaterLemmas.{greater_close}
use Rattle.fc_tables.proofs.laws.greater_bounds_close_too.Goals as goal

pub returns : goal.returns
returns c = greater_close
