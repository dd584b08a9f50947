-- The boards that the bytes of keys spell.
use Rattle.std.specs.Prelude.{◌≡◌, ◌≤◌, ℕ, suc, zero, ◌==◌, if◌then◌else◌, Option, Some, None, List, [], ◌∷◌, map, take, drop}
use Rattle.fc_position.specs.Board.{Board}
use Rattle.fc_position.specs.Position.{IsPosition}
use Rattle.fc_moves.specs.GameRules.{GameRules, IsPositionOf}
use Rattle.fc_canonical.specs.Key.{board_bytes}
use Rattle.fc_canonical.specs.Order.{IsCanonical, full_cells}

-- the byte 255 spells an empty cell, and any other the card with that number
abbrev pub spelled_cell : ℕ → Option ℕ
spelled_cell byte = if byte == 255 then None else Some byte

-- so many columns, each after the number of its cards
abbrev pub spelled_columns : ℕ → List ℕ → List (List ℕ)
spelled_columns zero bytes = []
spelled_columns (suc count) [] = []
spelled_columns (suc count) (size ∷ bytes) = take size bytes ∷ spelled_columns count (drop size bytes)

-- the board that the bytes spell: four counts, four cells and eight columns
unfoldable pub board_of_bytes : List ℕ → Board
board_of_bytes bytes = record {
  columns = spelled_columns 8 (drop 8 bytes);
  cells = map spelled_cell (take 4 (drop 4 bytes));
  homes = take 4 bytes;
}

-- the bytes are the key of a canonical position of the game
pub record IsKeyIn (g : GameRules) (key : List ℕ) : Type 0 where
  pub position : IsPositionOf g (board_of_bytes key)
  pub ordered : IsCanonical (board_of_bytes key)
  pub bytes : key ≡ board_bytes (board_of_bytes key)

-- the bytes are the key of a canonical position, of whose cells at most so many hold a card
pub record IsKeyFor (cells : ℕ) (key : List ℕ) : Type 0 where
  pub position : IsPosition (board_of_bytes key)
  pub few : full_cells (board_of_bytes key) ≤ cells
  pub ordered : IsCanonical (board_of_bytes key)
  pub bytes : key ≡ board_bytes (board_of_bytes key)
