-- Which cards of columns wait for which, as bits of cards.
use Rattle.std.specs.Prelude.{◌≡◌, ℕ, ◌<◌, Bool, true, cond, length, take, List, [], ◌++◌, Some, slice_index_or}
use Rattle.std.specs.Int.{bit_at}
use Rattle.std.specs.List.{list_any}
use Rattle.fc_position.specs.Board.{last_of, front_of}
use Rattle.fc_bound.specs.declared.waiting_rows.Row.{Row}
use Rattle.fc_bound.specs.declared.waiting_rows.ColumnTable.{ColumnTable}
use Rattle.fc_bound.specs.Bound.{is_lower, stands_in, is_above_lower}
use Rattle.fc_bound.specs.Knots.{ends_with, ends_among}

-- the bits of the numbers that pass a test
abbrev pub AreBits : ℕ → (ℕ → Bool) → Type 0
AreBits bits test = (x : ℕ) → bit_at bits x ≡ cond (test x) 1 0

-- the bits of cards that wait for one of these: a lower card of their own suit is among these
abbrev pub AreWaiting : ℕ → List ℕ → Type 0
AreWaiting bits cards = (c : ℕ) → c < 52 → bit_at bits c ≡ cond (list_any (is_lower c) cards) 1 0

-- the card stands in one of the columns
abbrev pub stands_among : List (List ℕ) → ℕ → Bool
stands_among columns c = list_any (λ column. stands_in column c) columns

-- what is read past the end of rows
abbrev pub no_row : Row
no_row = record { waiting = 0; beneath = 0 }

-- what is known of the last one of these cards of a column
pub record IsRow (row : Row) (cards : List ℕ) : Type 0 where
  pub waiting : AreWaiting row.waiting cards
  pub beneath : AreBits row.beneath (λ c. ends_with c (last_of (front_of cards)))

-- the rows of each number of each column's lowest cards, by their last one
abbrev pub AreRows : List (List ℕ) → List Row → Type 0
AreRows columns rows = (i h u : ℕ) → last_of (take h (slice_index_or columns i [])) ≡ Some u
    → IsRow (slice_index_or rows u no_row) (take h (slice_index_or columns i []))

-- the same of a column's cards and of those of columns, but for those with these bits
abbrev pub AreRowsOf : ℕ → List ℕ → List Row → Type 0
AreRowsOf bits cards rows = (h u : ℕ) → last_of (take h cards) ≡ Some u → bit_at bits u ≡ 0
    → IsRow (slice_index_or rows u no_row) (take h cards)

abbrev pub AreRowsBut : ℕ → List (List ℕ) → List Row → Type 0
AreRowsBut bits columns rows = (i : ℕ) → AreRowsOf bits (slice_index_or columns i []) rows

-- what is looked up of columns: the row of each card, and the bits of all cards, of the last ones and of those that stand above a
-- lower card of their own suit
pub record IsTableOf (columns : List (List ℕ)) (table : ColumnTable) : Type 0 where
  pub long : length table.rows ≡ 52
  pub rows : AreRows columns table.rows
  pub all : AreBits table.marks.all (stands_among columns)
  pub lasts : AreBits table.marks.lasts (ends_among columns)
  pub held : AreBits table.marks.held (λ c. list_any (is_above_lower c) columns)

-- a table whose rows are those of columns, but for the cards with these bits
pub record IsTableBut (bits : ℕ) (columns : List (List ℕ)) (table : ColumnTable) : Type 0 where
  pub long : length table.rows ≡ 52
  pub rows : AreRowsBut bits columns table.rows

-- of a column's cards those with these bits lie above all others
abbrev pub MoveAbove : ℕ → List ℕ → Type 0
MoveAbove bits cards = (h u c : ℕ) → last_of (take h cards) ≡ Some u → bit_at bits u ≡ 0 → stands_in (take h cards) c ≡ true → bit_at bits c ≡ 0

-- these are the lowest cards of one of the columns
pub record IsFrontIn (columns : List (List ℕ)) (cards : List ℕ) : Type 0 where
  pub number : ℕ
  pub above : List ℕ
  pub is : slice_index_or columns number [] ≡ cards ++ above

-- from the one columns to the other no card moved but those with these bits: each other one stands there yet, on the same cards, none of
-- which moved
pub record HaveMoved (before after : List (List ℕ)) (bits : ℕ) : Type 0 where
  pub fronts : (i h u : ℕ) → last_of (take h (slice_index_or after i [])) ≡ Some u → bit_at bits u ≡ 0
      → IsFrontIn before (take h (slice_index_or after i []))
  pub above : (i : ℕ) → MoveAbove bits (slice_index_or after i [])
  pub stay : (c : ℕ) → stands_among before c ≡ true → bit_at bits c ≡ 0 → stands_among after c ≡ true

-- the last card of one of the columns lies on a card with one of these bits
pub record LiesOnOne (columns : List (List ℕ)) (bits : ℕ) (c : ℕ) : Type 0 where
  pub number : ℕ
  pub last : last_of (slice_index_or columns number []) ≡ Some c
  pub host : ℕ
  pub on : last_of (front_of (slice_index_or columns number [])) ≡ Some host
  pub set : bit_at bits host ≡ 1
