use Rattle.fc_batch.proofs.EndLemmas.{quiet_turns_end as ends}
use Rattle.fc_batch.proofs.laws.quiet_turns_end.Goals as goal

pub returns : goal.returns
returns c = ends
