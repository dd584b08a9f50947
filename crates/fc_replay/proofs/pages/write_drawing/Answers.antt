use Rattle.fc_io.proofs.MoveLemmas.{takes_then_front}
use Rattle.fc_replay.proofs.pages.write_drawing.Goals as goal

pub returns-clause-front : goal.returns-clause-front
returns-clause-front g c = takes_then_front _ _ _ _ _ c.in_ok-write_both.ensures.whole c.write_all.ensures.front
