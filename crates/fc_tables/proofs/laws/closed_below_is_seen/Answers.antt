use Rattle.fc_tables.proofs.LookLemmas.{seen_below}
use Rattle.fc_tables.proofs.laws.closed_below_is_seen.Goals as goal

pub returns : goal.returns
returns c = seen_below
