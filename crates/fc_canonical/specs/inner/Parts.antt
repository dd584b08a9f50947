-- What the parts of a key may be.
use Rattle.std.specs.Prelude.{◌≡◌, ℕ, ◌+◌, ◌<◌, ◌≤◌, ◌==◌, nat_lt, cond, not, length, All, List, Option, Some, None, sum_by, count_by}
use Rattle.std.specs.Int.{bit_at}
use Rattle.std.specs.List.{flat_map}
use Rattle.std.specs.List.Sorted.{IsNonDecreasing, IsNonDecreasingBy}
use Rattle.fc_position.specs.Board.{count_in_column, count_in_cell}
use Rattle.fc_position.specs.Tally.{AllCards}
use Rattle.fc_canonical.specs.Key.{column_bytes}
use Rattle.fc_canonical.specs.Order.{column_order}
use Rattle.fc_canonical.specs.Spelled.{spelled_cell}

-- a cell is empty or holds a card
abbrev pub IsSmall : Option ℕ → Type 0
IsSmall None = Unit {0}
IsSmall (Some c) = c < 52

-- a column holds cards, at most 52
pub record IsHolding (cards : List ℕ) : Type 0 where
  pub all : AllCards cards
  pub few : length cards ≤ 52

-- how often a number is in the set with these bits: once where its bit is set, and else never
unfoldable pub times_in : ℕ → ℕ → ℕ
times_in bits c = bit_at bits c

-- how often a number is due: a card once, and what is no card never
unfoldable pub times_due : ℕ → ℕ
times_due c = cond (nat_lt c 52) 1 0

-- how often a card stands in the cells that these bytes spell
abbrev pub count_in_cells : ℕ → List ℕ → ℕ
count_in_cells c bytes = sum_by (λ byte. count_in_cell c (spelled_cell byte)) bytes

-- the bytes of cells rise, and at most so many of them are of cells that hold a card
pub record AreCells (most : ℕ) (bytes : List ℕ) : Type 0 where
  pub rising : IsNonDecreasing bytes
  pub few : count_by (λ byte. not (byte == 255)) bytes ≤ most

-- the bytes are so many columns by rising order, none lower than the given one, and what was read before and the columns
-- have each number as often as it is due
pub record AreColumns (read : ℕ → ℕ) (order count : ℕ) (key : List ℕ) : Type 0 where
  pub columns : List (List ℕ)
  pub many : length columns ≡ count
  pub from : All (λ cards. order ≤ column_order cards) columns
  pub rising : IsNonDecreasingBy column_order columns
  pub each : (c : ℕ) → read c + sum_by (count_in_column c) columns ≡ times_due c
  pub bytes : key ≡ flat_map column_bytes columns
