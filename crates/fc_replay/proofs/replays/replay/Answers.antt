use Rattle.fc_replay.proofs.PageLemmas.{replays_printed}
use Rattle.fc_replay.proofs.replays.replay.Goals as goal

pub returns-in-Ok-clause-replayed : goal.returns-in-Ok-clause-replayed
returns-in-Ok-clause-replayed g c = replays_printed _ _ _ _ _ _ c.in-Ok.ensures.replayed

pub returns-in-Err-clause-replayed : goal.returns-in-Err-clause-replayed
returns-in-Err-clause-replayed g c = replays_printed _ _ _ _ _ _ c.in-Err.ensures.replayed
