-- One move by the rules of a game.
use Rattle.std.specs.Prelude.{◌≡◌, ◌≢◌, ℕ, ◌+◌, ◌*◌, ◌<◌, ◌⊎◌, length, List, [], Some, None, map, Contains}
use Rattle.std.specs.List.Sorted.{IsStrictlyIncreasing}
use Rattle.fc_cards.specs.declared.places.Place.{Place}
use Rattle.fc_cards.specs.declared.places.Place.TheVariants.{Column, Cell, Home}
use Rattle.fc_position.specs.Board.{Board, column, cell, playable, board_without, board_with, last_of, IsNext}
use Rattle.fc_moves.specs.declared.steps.Move.{Move}
use Rattle.fc_moves.specs.GameRules.{GameRules, Stands, Opens}

-- a card may go from the one place to the other: not to its own column, not from cell to cell, and none comes from home
abbrev pub Joins : Place → Place → Type 0
Joins (Column i) (Column j) = j ≢ i
Joins (Column i) (Cell j) = Unit {0}
Joins (Column i) Home = Unit {0}
Joins (Cell i) (Column j) = Unit {0}
Joins (Cell i) (Cell j) = ⊥
Joins (Cell i) Home = Unit {0}
Joins Home to = ⊥

-- the card may go to a column with these cards: to an empty one where it opens columns, else where it stands on the last
abbrev pub MayLand : GameRules → List ℕ → ℕ → Type 0
MayLand g cards u = ((cards ≡ []) × Opens g u) ⊎ ((l : ℕ) × (last_of cards ≡ Some l) × Stands g u l)

-- the place takes the card: a column where it may land, an empty cell of the game, or home where it is next
abbrev pub Takes : GameRules → Board → ℕ → Place → Type 0
Takes g b u (Column j) = (j < length b.columns) × MayLand g (column b j) u
Takes g b u (Cell j) = (j < g.cells) × (j < length b.cells) × (cell b j ≡ None)
Takes g b u Home = IsNext b.homes u

-- the move takes a playable card to another place that takes it, and leads to the board with the card there
pub record Step (g : GameRules) (b : Board) (m : Move) (c : Board) : Type 0 where
  pub card : ℕ
  pub playable : playable b m.from ≡ Some card
  pub joins : Joins m.from m.to
  pub takes : Takes g b card m.to
  pub after : c ≡ board_with (board_without b m.from) card m.to

-- the rules allow the move
abbrev pub Allows : GameRules → Board → Move → Type 0
Allows g b m = (c : Board) × Step g b m c

-- places are numbered from the first column to the last cell, and home comes last
abbrev pub place_number : Place → ℕ
place_number (Column i) = i
place_number (Cell i) = 8 + i
place_number Home = 12

-- moves are numbered by their source and then by their destination
abbrev pub move_number : Move → ℕ
move_number m = place_number m.from * 13 + place_number m.to

-- the list has exactly the allowed moves, each once, by rising number
pub record ListsMoves (g : GameRules) (b : Board) (moves : List Move) : Type 0 where
  pub allowed : (m : Move) → Contains moves m → Allows g b m
  pub complete : (m : Move) → Allows g b m → Contains moves m
  pub rising : IsStrictlyIncreasing (map move_number moves)
