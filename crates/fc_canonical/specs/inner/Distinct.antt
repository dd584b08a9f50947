-- Which moves from a position lead to boards of one class, and which of them is listed, within the crate.
use Rattle.std.specs.Prelude.{◌≡◌, ◌+◌, ◌<◌, ◌⊎◌, ◌↔◌, ℕ, Option, Some, None, length, List, [], ◌∷◌, ◌++◌, All, Contains, slice_index_or}
use Rattle.std.specs.Int.{bit_at}
use Rattle.fc_cards.specs.Card.{rank}
use Rattle.fc_cards.specs.declared.places.Place.{Place}
use Rattle.fc_cards.specs.declared.places.Place.TheVariants.{Column, Cell, Home}
use Rattle.fc_position.specs.Board.{Board, column, cell, last_of}
use Rattle.fc_moves.specs.declared.steps.Move.{Move}
use Rattle.fc_moves.specs.GameRules.{GameRules, Stands, Opens}
use Rattle.fc_moves.specs.Step.{Allows, place_number, move_number}
use Rattle.fc_canonical.specs.Distinct.{AreInOrder, AreInOrder}

-- the move takes a column's only card to an empty column
abbrev pub Stays : Board → Place → Place → Type 0
Stays b (Column i) (Column j) = (length (column b i) ≡ 1) × (column b j ≡ [])
Stays b (Column i) (Cell j) = ⊥
Stays b (Column i) Home = ⊥
Stays b (Cell i) to = ⊥
Stays b Home to = ⊥

-- where this place is empty, no column, or no cell, before it is: a cell that takes a card is
abbrev pub IsFirstEmpty : Board → Place → Type 0
IsFirstEmpty b (Column j) = column b j ≡ [] → (k : ℕ) → k < j → column b k ≡ [] → ⊥
IsFirstEmpty b (Cell j) = (k : ℕ) → k < j → cell b k ≡ None → ⊥
IsFirstEmpty b Home = Unit {0}

-- a column's cards are one card, which may go to an empty column
abbrev pub IsLone : GameRules → List ℕ → Type 0
IsLone g cards = (u : ℕ) × (cards ≡ u ∷ []) × Opens g u

-- some column below this number has one card alone, which may go to an empty column
abbrev pub IsLoneBelow : GameRules → Board → ℕ → Type 0
IsLoneBelow g b n = (k : ℕ) × (k < n) × IsLone g (column b k)

-- the place is a column of one card, and an earlier column has one card alone, which may go to an empty column
abbrev pub IsLaterLone : GameRules → Board → Place → Type 0
IsLaterLone g b (Column i) = (i < 8) × (length (column b i) ≡ 1) × IsLoneBelow g b i
IsLaterLone g b (Cell i) = ⊥
IsLaterLone g b Home = ⊥

-- the move is the first allowed one that leads to its class
pub record IsListed (g : GameRules) (b : Board) (m : Move) : Type 0 where
  pub allowed : Allows g b m
  pub first : IsFirstEmpty b m.to
  pub stays : Stays b m.from m.to → IsLoneBelow g b (place_number m.from) → ⊥

-- of the moves to be listed, the list has exactly those with numbers below n, by rising number
pub record ListsDistinctBelow (g : GameRules) (b : Board) (n : ℕ) (moves : List Move) : Type 0 where
  pub listed : (m : Move) → Contains moves m → IsListed g b m × (move_number m < n)
  pub complete : (m : Move) → IsListed g b m → move_number m < n → Contains moves m
  pub rising : AreInOrder moves

-- in a game, on a board
module _ (g : GameRules) (b : Board) where
  -- the new list is the old one and then moves from this place: behind a list that has the moves to be listed with numbers
  -- below the lower one, they make one that has those below the higher
  pub record AddsDistinct (from : Place) (low high : ℕ) (old new : List Move) : Type 0 where
    pub added : List Move
    pub items : new ≡ old ++ added
    pub source : All (λ m. m.from ≡ from) added
    pub lists : (before : List Move) → ListsDistinctBelow g b low before → ListsDistinctBelow g b high (before ++ added)

-- the first empty column of eight, if there is one
abbrev pub IsFirstColumn : Board → Option ℕ → Type 0
IsFirstColumn b None = (k : ℕ) → k < 8 → column b k ≡ [] → ⊥
IsFirstColumn b (Some j) = (j < 8) × (column b j ≡ []) × ((k : ℕ) → k < j → column b k ≡ [] → ⊥)

-- the first empty cell of n, if there is one
abbrev pub IsFirstCell : Board → ℕ → Option ℕ → Type 0
IsFirstCell b n None = (k : ℕ) → k < n → cell b k ≡ None → ⊥
IsFirstCell b n (Some j) = (j < n) × (cell b j ≡ None) × ((k : ℕ) → k < j → cell b k ≡ None → ⊥)

-- the card is listed to a column with these cards: to an empty one where it is listed to that, else where it stands on
-- the last
abbrev pub GoesTo : GameRules → List ℕ → ℕ → Type 0 → Type 0
GoesTo g cards u opens = ((cards ≡ []) × opens) ⊎ ((l : ℕ) × (last_of cards ≡ Some l) × Stands g u l)

-- the column holds no card
abbrev pub IsEmptyColumn : Board → ℕ → Type 0
IsEmptyColumn b j = column b j ≡ []

-- the number is that of the empty column to which the move of the place's card is listed, if it is
abbrev pub IsOpening : GameRules → Board → Place → Option ℕ → Type 0
IsOpening g b from opening = (j : ℕ) → column b j ≡ []
    → (opening ≡ Some j) ↔ IsListed g b (record { from = from; to = Column j })

-- these have, at each rank, a bit set for each of the first n columns whose last card has it
abbrev pub TellLasts : Board → ℕ → List ℕ → Type 0
TellLasts b n lasts = (j l : ℕ) → j < n → last_of (column b j) ≡ Some l → bit_at (slice_index_or lasts (rank l) 0) j ≡ 1

-- each column whose last card is one rank higher than the card has its bit set
abbrev pub HaveHosts : Board → ℕ → ℕ → Type 0
HaveHosts b u hosts = (j l : ℕ) → j < 8 → last_of (column b j) ≡ Some l → rank u + 1 ≡ rank l → bit_at hosts j ≡ 1

-- each column to which the move of the place's card is listed has its bit set
abbrev pub HaveTakers : GameRules → Board → Place → ℕ → Type 0
HaveTakers g b from takers = (j : ℕ) → j < 8 → IsListed g b (record { from = from; to = Column j }) → bit_at takers j ≡ 1

-- the number is that of the cell to which the move of the place's card is listed, if it is
abbrev pub IsCellOf : GameRules → Board → Place → Option ℕ → Type 0
IsCellOf g b from held = (j : ℕ) → (held ≡ Some j) ↔ IsListed g b (record { from = from; to = Cell j })
