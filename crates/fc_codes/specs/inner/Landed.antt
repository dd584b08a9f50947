-- Which state a card gets, within the crate.
use Rattle.std.specs.Prelude.{◌≡◌, ℕ, ◌+◌, ◌<◌, ◌≤◌, ◌==◌, ◌&&◌, ◌⊎◌, if◌then◌else◌, List, [], ◌∷◌, ◌++◌, Option, Some, None, slice_index}
use Rattle.fc_cards.specs.Card.{suit}
use Rattle.fc_position.specs.Board.{Board, column, cell, IsHome, count_in_column}
use Rattle.fc_position.specs.Position.{IsPosition}
use Rattle.fc_codes.specs.State.{StandsOn, IsStateOf}
use Rattle.fc_codes.specs.Spelled.{beneath}

-- the state of a card that goes to an empty column, where s is the board at the start
abbrev pub table_state : Board → ℕ → ℕ
table_state s u = if beneath s u == 52 then 0 else 3

-- the state of a card that goes onto the card l, by the code before
abbrev pub card_state : Board → List ℕ → ℕ → ℕ → ℕ
card_state s code u l = if (beneath s u == l) && (slice_index code l == 0) then 0 else 4 + suit l

-- the state is 2 where the card is in one of the first n cells, and else 0
abbrev pub IsCellState : Board → ℕ → ℕ → ℕ → Type 0
IsCellState s n c state =
    ((state ≡ 2) × ((k : ℕ) × (k < n) × (cell s k ≡ Some c))) ⊎ ((state ≡ 0) × ((k : ℕ) → k < n → cell s k ≡ Some c → ⊥))

-- the state is 1 where the card is home, and else the old one
abbrev pub IsHomeState : Board → ℕ → ℕ → ℕ → Type 0
IsHomeState s c old state = ((state ≡ 1) × IsHome s.homes c) ⊎ ((state ≡ old) × (IsHome s.homes c → ⊥))

-- these cards end with the card below, if there is one, and else there are none
abbrev pub EndsWith : List ℕ → Option ℕ → Type 0
EndsWith cards None = cards ≡ []
EndsWith cards (Some l) = (front : List ℕ) × (cards ≡ front ++ l ∷ [])

-- the card stands in a column of the position on cards that end with the card below, whose state the code tells
pub record IsOver (s b : Board) (code : List ℕ) (below : Option ℕ) (card : ℕ) : Type 0 where
  pub position : IsPosition b
  pub cards : List ℕ
  pub ends : EndsWith cards below
  pub stands : StandsOn b cards card
  pub told : (l : ℕ) → below ≡ Some l → IsStateOf s b l (slice_index code l)

-- the new code tells the states of these cards, and of all others what the old one does
pub record TellsCards (s b : Board) (cards old new : List ℕ) : Type 0 where
  pub told : (c : ℕ) → 1 ≤ count_in_column c cards → IsStateOf s b c (slice_index new c)
  pub others : (c : ℕ) → count_in_column c cards ≡ 0 → slice_index new c ≡ slice_index old c

-- the same for the cards of the first columns
pub record TellsColumns (s b : Board) (n : ℕ) (old new : List ℕ) : Type 0 where
  pub told : (j c : ℕ) → j < n → 1 ≤ count_in_column c (column b j) → IsStateOf s b c (slice_index new c)
  pub others : (c : ℕ) → ((j : ℕ) → j < n → count_in_column c (column b j) ≡ 0) → slice_index new c ≡ slice_index old c
