-- Tables of answers: rows of a key's bytes and a cost.
use Rattle.std.specs.Prelude.{◌≡◌, ◌≢◌, ℕ, ◌+◌, ◌*◌, ◌<◌, ◌≤◌, List, [], ◌∷◌, length, AllPairs, Contains, slice_index, slice_index_or, map}
use Rattle.fc_position.specs.Board.{Board}
use Rattle.fc_position.specs.Position.{IsPosition}
use Rattle.fc_moves.specs.GameRules.{GameRules}
use Rattle.fc_canonical.specs.Key.{board_bytes}
use Rattle.fc_canonical.specs.KeyOrder.{IsBefore}
use Rattle.fc_canonical.specs.Spelled.{IsKeyIn}
use Rattle.fc_codes.specs.Spelled.{board_of_code}
use Rattle.fc_codes.specs.State.{IsCodeOf}
use Rattle.fc_home.specs.declared.settling.TheConstants.{GREATEST_RULE}
use Rattle.fc_bound.specs.declared.kinds.BoundKind.{BoundKind}
use Rattle.fc_answers.specs.declared.closed_tables.TheConstants.{MOST_CLASSES}
use Rattle.fc_answers.specs.declared.table_rows.Row.{Row}

-- rows, each a key and a cost in moves from the start, under a home rule and a kind of bound
pub record Listing : Type 0 where
  pub rule : ℕ
  pub bound : BoundKind
  pub rows : List (List ℕ × ℕ)

-- each row's key comes before the next one's
abbrev pub IsRising : List (List ℕ × ℕ) → Type 0
IsRising rows = (k : ℕ) (d : List ℕ × ℕ) → k + 1 < length rows
    → IsBefore (slice_index_or rows k d).0 (slice_index_or rows (k + 1) d).0

-- each row's key is that of a canonical position of the game
abbrev pub AreClasses : GameRules → List (List ℕ × ℕ) → Type 0
AreClasses g rows = (e : List ℕ × ℕ) → Contains rows e → IsKeyIn g e.0

-- a table of the game: it is under a home rule, has at most 16,000,000 rows, which rise, and lists classes of the game alone
pub record IsTable (g : GameRules) (table : Listing) : Type 0 where
  pub known : table.rule ≤ GREATEST_RULE
  pub few : length table.rows ≤ MOST_CLASSES
  pub rising : IsRising table.rows
  pub classes : AreClasses g table.rows

-- no two rows have one key
abbrev pub HaveKeysOnce : List (List ℕ × ℕ) → Type 0
HaveKeysOnce rows = AllPairs (λ x y. x.0 ≢ y.0) rows

-- the key of the class that a code names, as seen from the board at the start
abbrev pub key_by : Board → List ℕ → List ℕ
key_by start code = board_bytes (board_of_code start code)

-- rows of codes as pairs of a key and a cost, as seen from the board at the start
abbrev pub pairs_by : Board → List Row → List (List ℕ × ℕ)
pairs_by start rows = map (λ r. (key_by start r.code, r.cost)) rows

-- the code is that of some position, as seen from a position at the start
abbrev pub IsCoded : Board → List ℕ → Type 0
IsCoded start code = IsPosition start × ((b : Board) × IsPosition b × IsCodeOf start b code)

-- what is kept of the front of a key: its counts, two a byte, and what its first two cells hold
abbrev pub front_of : List ℕ → List ℕ
front_of key = (slice_index key 0 * 16 + slice_index key 1) ∷ (slice_index key 2 * 16 + slice_index key 3)
    ∷ slice_index key 4 ∷ slice_index key 5 ∷ []

-- the row's front is that of its class's key
abbrev pub IsFronted : Board → Row → Type 0
IsFronted start row = row.front ≡ front_of (key_by start row.code)

-- the row is one of a class, as seen from the board at the start
abbrev pub IsRowOf : Board → Row → Type 0
IsRowOf start row = IsCoded start row.code × IsFronted start row
