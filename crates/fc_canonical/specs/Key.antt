-- Keys: the bytes that spell the canonical board of a class.
use Rattle.std.specs.Prelude.{◌≡◌, ℕ, ◌+◌, length, map, List, ◌∷◌, ◌++◌}
use Rattle.std.specs.List.{flat_map}
use Rattle.fc_position.specs.Board.{Board}
use Rattle.fc_position.specs.Position.{IsPosition}
use Rattle.fc_moves.specs.Class.{SameClass}
use Rattle.fc_canonical.specs.Order.{IsCanonical, cell_byte}

-- a column is spelled as the number of its cards and the cards, deepest first
abbrev pub column_bytes : List ℕ → List ℕ
column_bytes cards = length cards ∷ cards

-- a board is spelled as its counts, its cells and its columns
abbrev pub board_bytes : Board → List ℕ
board_bytes b = b.homes ++ map cell_byte b.cells ++ flat_map column_bytes b.columns

-- the bytes of the board, canonical or not, stand at the front, whatever follows
abbrev pub BeginsWithBoard : List ℕ → Board → Type 0
BeginsWithBoard bytes b = (rest : List ℕ) × (bytes ≡ board_bytes b ++ rest)

-- the bytes spell the canonical board of the board's class
pub record IsKeyOf (b : Board) (key : List ℕ) : Type 0 where
  pub canonical : Board
  pub class : SameClass b canonical
  pub ordered : IsCanonical canonical
  pub bytes : key ≡ board_bytes canonical

-- how many bytes the longest keys have: four counts, four cells, the lengths of eight columns, and 52 cards
abbrev pub longest_key : ℕ
longest_key = 68

-- the first n bytes are eight bytes and then eight columns by their length bytes, whatever the other bytes are
pub record HasExtent (bytes : List ℕ) (n : ℕ) : Type 0 where
  pub front : List ℕ
  pub columns : List (List ℕ)
  pub rest : List ℕ
  pub eight : length front ≡ 8
  pub count : length columns ≡ 8
  pub parts : bytes ≡ front ++ (flat_map column_bytes columns ++ rest)
  pub size : n ≡ 8 + length (flat_map column_bytes columns)

-- the first n bytes are the key of the canonical position b
pub record BeginsWithKey (bytes : List ℕ) (b : Board) (n : ℕ) : Type 0 where
  pub position : IsPosition b
  pub ordered : IsCanonical b
  pub rest : List ℕ
  pub parts : bytes ≡ board_bytes b ++ rest
  pub size : n ≡ length (board_bytes b)
