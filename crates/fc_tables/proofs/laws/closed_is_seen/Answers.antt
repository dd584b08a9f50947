use Rattle.fc_tables.proofs.LookLemmas.{seen_closed}
use Rattle.fc_tables.proofs.laws.closed_is_seen.Goals as goal

pub returns : goal.returns
returns c = seen_closed
