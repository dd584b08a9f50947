use Rattle.std.proofs.Common.{refl}
use Rattle.fc_review.proofs.ReviewLemmas.{front_of_run, is_after}
use Rattle.fc_review.proofs.known_boards.board_after.Goals as goal

pub position_after-requires-clause-run : goal.position_after-requires-clause-run
position_after-requires-clause-run g c = front_of_run _ _ _ _ _ _ refl c.requires.run c.split_at.ensures.front

pub returns-clause-after : goal.returns-clause-after
returns-clause-after g c = is_after _ _ _ _ _ _ c.requires.within c.split_at.ensures.front c.position_after.ensures.there
