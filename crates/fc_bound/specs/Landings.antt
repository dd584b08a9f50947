-- Moves that take no card home.
use Rattle.std.specs.Prelude.{◌≡◌, ◌≢◌, Some}
use Rattle.fc_cards.specs.declared.places.Place.TheVariants.{Home}
use Rattle.fc_position.specs.Board.{Board, playable}
use Rattle.fc_bound.specs.declared.landings.Landing.{Landing}

-- a move from the board that takes no card home, its card, and the last card of the column to which it goes, if there is one
pub record IsLanding (b : Board) (l : Landing) : Type 0 where
  pub away : l.m.to ≢ Home
  pub card : playable b l.m.from ≡ Some l.card
  pub host : playable b l.m.to ≡ l.host
