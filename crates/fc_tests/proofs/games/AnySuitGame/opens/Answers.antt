use Rattle.fc_moves.proofs.GameLemmas.{every_opens}
use Rattle.fc_tests.proofs.games.AnySuitGame.opens.Goals as goal

pub returns : goal.returns
returns c = record { value = every_opens c.args.card (rw (← c.index-index.ensures.value) c.index-index.ensures.below) }
