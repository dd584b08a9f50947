use Rattle.fc_replay.proofs.PlayLemmas.{played_tokens_run}
use Rattle.fc_replay.proofs.laws.played_tokens_run.Goals as goal

pub returns : goal.returns
returns c = played_tokens_run
