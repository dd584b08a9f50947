-- Boards: cards in columns, in cells and at home, whether or not each card has one place.
use Rattle.std.specs.Prelude.{◌≡◌, ℕ, ◌+◌, ◌-◌, ◌<◌, ◌≤◌, ◌==◌, nat_le, cond, length, take, List, [], ◌∷◌, ◌++◌, Option, Some, None, slice_get, slice_set, slice_index, slice_index_or, sum_by, count_by, map}
use Rattle.arrayvec.specs.ArrayVec.{ArrayVec}
use Rattle.fc_cards.specs.Card.{rank, suit}
use Rattle.fc_cards.specs.declared.places.Place.{Place}
use Rattle.fc_cards.specs.declared.places.Place.TheVariants.{Column, Cell, Home}

-- what lies where: the columns with the deepest card first, the cells, and how many cards of each suit are home, in
-- the order clubs, diamonds, hearts, spades
pub record Board : Type 0 where
  pub columns : List (List ℕ)
  pub cells : List (Option ℕ)
  pub homes : List ℕ

-- the board with these columns, cells and counts
abbrev pub board_of : List (ArrayVec ℕ) → List (Option ℕ) → List ℕ → Board
board_of columns cells homes = record { columns = map (λ v. v.items) columns; cells = cells; homes = homes }

-- the cards of a column, none past the last column
abbrev pub column : Board → ℕ → List ℕ
column b i = slice_index_or b.columns i []

-- what a cell holds, nothing past the last cell
abbrev pub cell : Board → ℕ → Option ℕ
cell b i = slice_index_or b.cells i None

-- how many cards of a suit are home
abbrev pub home : Board → ℕ → ℕ
home b s = slice_index b.homes s

-- by these counts the card is home: its suit is home up to its rank at least
abbrev pub IsHome : List ℕ → ℕ → Type 0
IsHome homes c = rank c ≤ slice_index homes (suit c)

-- by these counts the card is next: its suit is home up to the rank below its own
abbrev pub IsNext : List ℕ → ℕ → Type 0
IsNext homes c = slice_index homes (suit c) + 1 ≡ rank c

-- the last card of a list, if there is one, and the cards before it
abbrev pub last_of : List ℕ → Option ℕ
last_of cards = slice_get cards (length cards - 1)

abbrev pub front_of : List ℕ → List ℕ
front_of cards = take (length cards - 1) cards

-- the card that may be taken from a place: the last of a column, or the one in a cell
abbrev pub playable : Board → Place → Option ℕ
playable b (Column i) = last_of (column b i)
playable b (Cell i) = cell b i
playable b Home = None

-- the board without the playable card of a place
abbrev pub board_without : Board → Place → Board
board_without b (Column i) = record b { columns = slice_set b.columns i (front_of (column b i)) }
board_without b (Cell i) = record b { cells = slice_set b.cells i None }
board_without b Home = b

-- the board with the card u put at a place
abbrev pub board_with : Board → ℕ → Place → Board
board_with b u (Column i) = record b { columns = slice_set b.columns i (column b i ++ u ∷ []) }
board_with b u (Cell i) = record b { cells = slice_set b.cells i (Some u) }
board_with b u Home = record b { homes = slice_set b.homes (suit u) (rank u) }

-- the new board is the old one with the playable card of the one place put at the other
abbrev pub IsShift : Board → Place → Place → Board → Type 0
IsShift old from to new = (u : ℕ) → playable old from ≡ Some u → new ≡ board_with (board_without old from) u to

-- the place can take the card u: a column that is there, a cell that is there and empty, or home where u is next
abbrev pub Receives : Board → ℕ → Place → Type 0
Receives b u (Column i) = i < length b.columns
Receives b u (Cell i) = (i < length b.cells) × (cell b i ≡ None)
Receives b u Home = IsNext b.homes u

-- how often a card stands in a column, in a cell, and at home
abbrev pub count_in_column : ℕ → List ℕ → ℕ
count_in_column c cards = count_by (λ x. x == c) cards

abbrev pub count_in_cell : ℕ → Option ℕ → ℕ
count_in_cell c None = 0
count_in_cell c (Some x) = cond (x == c) 1 0

abbrev pub count_at_home : ℕ → List ℕ → ℕ
count_at_home c homes = cond (nat_le (rank c) (slice_index homes (suit c))) 1 0

-- how many places a card has in all
abbrev pub places : Board → ℕ → ℕ
places b c = sum_by (count_in_column c) b.columns + sum_by (count_in_cell c) b.cells + count_at_home c b.homes
