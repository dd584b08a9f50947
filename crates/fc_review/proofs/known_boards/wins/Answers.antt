use Rattle.fc_review.proofs.ReviewLemmas.{wins_by}
use Rattle.fc_review.proofs.known_boards.wins.Goals as goal

pub returns : goal.returns
returns g c = record { value = wins_by _ _ c.position_after.result _ c.is_won.result c.position_after.ensures.there c.is_won.ensures.value }
