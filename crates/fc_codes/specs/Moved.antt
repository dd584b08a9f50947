-- What leads from a position with a code to a board.
use Rattle.std.specs.Prelude.{◌≡◌, ℕ, List, Some}
use Rattle.fc_position.specs.Board.{Board, playable}
use Rattle.fc_position.specs.Position.{IsPosition}
use Rattle.fc_moves.specs.declared.steps.Move.{Move}
use Rattle.fc_moves.specs.GameRules.{GameRules, IsGame}
use Rattle.fc_moves.specs.Step.{Step}
use Rattle.fc_codes.specs.State.{IsCodeOf}

-- the move takes the card, by the rules of a game, from the position b with this code to the board c; s is the position at
-- the start
pub record Moves (s : Board) (code : List ℕ) (card : ℕ) (b : Board) (m : Move) (c : Board) : Type 0 where
  pub position : IsPosition b
  pub coded : IsCodeOf s b code
  pub playable : playable b m.from ≡ Some card
  pub game : GameRules
  pub sound : IsGame game
  pub step : Step game b m c
