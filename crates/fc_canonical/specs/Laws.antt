-- What the laws of this crate state.
use Rattle.std.specs.Prelude.{◌≡◌, ℕ, ◌≤◌, ◌↔◌, length, take, List}
use Rattle.fc_position.specs.Board.{Board}
use Rattle.fc_position.specs.Position.{IsPosition, Fits}
use Rattle.fc_moves.specs.GameRules.{GameRules, IsPositionOf}
use Rattle.fc_moves.specs.Class.{SameClass}
use Rattle.fc_canonical.specs.Key.{longest_key, IsKeyOf, HasExtent, BeginsWithKey}
use Rattle.fc_canonical.specs.Order.{IsCanonical, full_cells}
use Rattle.fc_canonical.specs.Spelled.{IsKeyIn, IsKeyFor, board_of_bytes}

-- a position's class has one canonical board
abbrev pub ClassesHaveOneCanonicalBoard : Type 0
ClassesHaveOneCanonicalBoard = (b c : Board) → IsPosition b → SameClass b c → IsCanonical b → IsCanonical c → b ≡ c

-- two keys are the same exactly where they are of positions of one class
abbrev pub KeysTellClasses : Type 0
KeysTellClasses = (b c : Board) (k l : List ℕ) → IsPosition b → IsPosition c → IsKeyOf b k → IsKeyOf c l
    → (k ≡ l) ↔ SameClass b c

-- no bytes begin with two keys, whatever follows
abbrev pub BytesBeginWithOneKey : Type 0
BytesBeginWithOneKey = (bytes : List ℕ) (b c : Board) (m n : ℕ) → BeginsWithKey bytes b m → BeginsWithKey bytes c n
    → (b ≡ c) × (m ≡ n)

-- the extent of a key by its length bytes is the key
abbrev pub KeysHaveExtents : Type 0
KeysHaveExtents = (bytes : List ℕ) (b : Board) (m n : ℕ) → BeginsWithKey bytes b m → HasExtent bytes n ↔ (m ≡ n)

-- every position has a key
abbrev pub PositionsHaveKeys : Type 0
PositionsHaveKeys = (b : Board) → (key : List ℕ) × IsKeyOf b key

-- the key of a position of the game spells a canonical position of the game, of the same class
abbrev pub KeysSpellPositions : Type 0
KeysSpellPositions = (g : GameRules) (b : Board) (key : List ℕ) → IsPositionOf g b → IsKeyOf b key
    → IsKeyIn g key × SameClass b (board_of_bytes key)

-- a canonical board is a position of the game wherever any board of its class is one
abbrev pub CanonicalBoardsFit : Type 0
CanonicalBoardsFit = (g : GameRules) (x c : Board) → IsPositionOf g x → SameClass x c → IsCanonical c → IsPositionOf g c

-- a canonical position has no card in the cells from the n-th on exactly where at most n of its cells are full
abbrev pub CanonicalBoardsFitByCount : Type 0
CanonicalBoardsFitByCount = (n : ℕ) (b : Board) → IsPosition b → IsCanonical b → Fits n b ↔ (full_cells b ≤ n)

-- the extent by the length bytes is one, whatever the other bytes are
abbrev pub ExtentsAreOne : Type 0
ExtentsAreOne = (bytes : List ℕ) (m n : ℕ) → HasExtent bytes m → HasExtent bytes n → m ≡ n

-- a front of bytes has their extent where it is long enough to hold it, and else none
abbrev pub FrontsHaveTheirExtent : Type 0
FrontsHaveTheirExtent = (bytes : List ℕ) (k m n : ℕ) → HasExtent bytes n → HasExtent (take k bytes) m ↔ ((m ≡ n) × (n ≤ k))

-- a key has at most 68 bytes
abbrev pub KeysAreShort : Type 0
KeysAreShort = (b : Board) (key : List ℕ) → IsPosition b → IsKeyOf b key → length key ≤ longest_key

-- a key of the game is the key at its own front
abbrev pub KeysBeginThemselves : Type 0
KeysBeginThemselves = (g : GameRules) (key : List ℕ) → IsKeyIn g key → BeginsWithKey key (board_of_bytes key) (length key)

-- bytes that begin with the key of a position spell it, whatever follows
abbrev pub FrontKeysSpellTheirBoard : Type 0
FrontKeysSpellTheirBoard = (bytes : List ℕ) (b : Board) (n : ℕ) → BeginsWithKey bytes b n → board_of_bytes bytes ≡ b

-- bytes are a key of the game exactly where they are one of whose cells at most as many as the game has hold a card
abbrev pub KeysOfGamesByCells : Type 0
KeysOfGamesByCells = (g : GameRules) (key : List ℕ) → IsKeyIn g key ↔ IsKeyFor g.cells key
