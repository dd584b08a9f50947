-- One move by the rules of a game, within the crate.
use Rattle.std.specs.Prelude.{ℕ, ◌<◌, List, map, Contains}
use Rattle.std.specs.List.Sorted.{IsStrictlyIncreasing}
use Rattle.fc_cards.specs.declared.places.Place.{Place}
use Rattle.fc_cards.specs.declared.places.Place.TheVariants.{Column, Cell, Home}
use Rattle.fc_position.specs.Board.{Board}
use Rattle.fc_moves.specs.declared.steps.Move.{Move}
use Rattle.fc_moves.specs.GameRules.{GameRules}
use Rattle.fc_moves.specs.Step.{Allows, Allows, move_number}

-- of the allowed moves, the list has exactly those with numbers below n, each once, by rising number
pub record ListsBelow (g : GameRules) (b : Board) (n : ℕ) (moves : List Move) : Type 0 where
  pub allowed : (m : Move) → Contains moves m → Allows g b m × (move_number m < n)
  pub complete : (m : Move) → Allows g b m → move_number m < n → Contains moves m
  pub rising : IsStrictlyIncreasing (map move_number moves)

-- to how many places a card may go from a place, whatever stands there
abbrev pub most_from : Place → ℕ
most_from (Column i) = 12
most_from (Cell i) = 9
most_from Home = 0
