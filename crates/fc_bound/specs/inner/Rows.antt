-- What is left of columns while cards are taken out of them, as bits of cards.
use Rattle.std.specs.Prelude.{◌≡◌, ℕ, zero, suc, ◌+◌, ◌-◌, ◌*◌, ◌<◌, ◌≤◌, ◌==◌, ◌&&◌, Bool, true, false, not, cond, length, take, map, List, [], ◌∷◌, Option, Some, None, slice_index_or, sum_by}
use Rattle.std.specs.Int.{bit_at}
use Rattle.std.specs.List.{list_any}
use Rattle.fc_position.specs.Board.{Board, last_of}
use Rattle.fc_position.specs.Position.{IsPosition}
use Rattle.fc_bound.specs.declared.waiting_rows.Row.{Row}
use Rattle.fc_bound.specs.Bound.{is_above_lower, stands_in}
use Rattle.fc_bound.specs.Clearing.{waits}
use Rattle.fc_bound.specs.Knots.{has_last, waits_above, are_knotted, ends_among}
use Rattle.fc_bound.specs.Rows.{AreBits, AreRows, stands_among}

-- the cards of a column up to the first whose bit is not set
abbrev pub left_of : ℕ → List ℕ → List ℕ
left_of bits [] = []
left_of bits (c ∷ cards) = cond (bit_at bits c == 1) (c ∷ left_of bits cards) []

-- the same of each column
abbrev pub left_in : ℕ → List (List ℕ) → List (List ℕ)
left_in bits columns = map (left_of bits) columns

-- a number that is less by a multiple of four has its bit set
abbrev pub HasLower : ℕ → ℕ → Type 0
HasLower bits c = (k : ℕ) × (0 < k) × (4 * k ≤ c) × (bit_at bits (c - 4 * k) ≡ 1)

-- the bit of a number is set
abbrev pub is_set : ℕ → ℕ → Bool
is_set bits u = bit_at bits u == 1

-- a last card has its bit set
abbrev pub ends_in : ℕ → Option ℕ → Bool
ends_in bits None = false
ends_in bits (Some u) = bit_at bits u == 1

-- the bits are those of the last cards of the columns that pass a test
pub record Mark (bits : ℕ) (columns : List (List ℕ)) (test : List ℕ → Bool) : Type 0 where
  pub lasts : (u : ℕ) → bit_at bits u ≡ 1 → ends_among columns u ≡ true
  pub each : (k : ℕ) → k < length columns
      → ends_in bits (last_of (slice_index_or columns k [])) ≡ (test (slice_index_or columns k []) && has_last (last_of (slice_index_or columns k [])))

-- no two columns have one last card
abbrev pub AreApart : List (List ℕ) → Type 0
AreApart columns = (i k u : ℕ) → last_of (slice_index_or columns i []) ≡ Some u → last_of (slice_index_or columns k []) ≡ Some u → i ≡ k

-- the bits tell of each card that stands in the columns whether it waits for none
abbrev pub AreLow : ℕ → List (List ℕ) → Type 0
AreLow bits columns = (c : ℕ) → stands_among columns c ≡ true → bit_at bits c ≡ cond (not (waits columns (Some c))) 1 0

-- whether columns that end with these cards are knotted
abbrev pub TellsKnot : List (List ℕ) → ℕ → ℕ → Bool → Type 0
TellsKnot columns u v so = (i j : ℕ) → last_of (slice_index_or columns i []) ≡ Some u → last_of (slice_index_or columns j []) ≡ Some v
    → are_knotted (slice_index_or columns i []) (slice_index_or columns j []) ≡ so

-- these cards are left of a position's columns, and these are the last ones
pub record IsLeft (b : Board) (rows : List Row) (held all lasts : ℕ) : Type 0 where
  pub whole : IsPosition b
  pub long : length rows ≡ 52
  pub each : AreRows b.columns rows
  pub above : AreBits held (λ c. list_any (is_above_lower c) b.columns)
  pub stand : AreBits all (stands_among (left_in all b.columns))
  pub ends : AreBits lasts (ends_among (left_in all b.columns))

-- how many of the lowest cards of a column, so many at most, wait for a card beneath them
abbrev pub waiting_of : ℕ → List ℕ → ℕ
waiting_of zero column = 0
waiting_of (suc high) column = cond (waits_above (take (suc high) column)) 1 0 + waiting_of high column

-- how many cards in the columns wait for a card beneath them
abbrev pub waiting_in : List (List ℕ) → ℕ
waiting_in columns = sum_by (λ column. waiting_of (length column) column) columns

-- the card stands above the lowest ones, so many
abbrev pub stands_above : ℕ → List ℕ → ℕ → Bool
stands_above front cards c = stands_in cards c && not (stands_in (take front cards) c)
