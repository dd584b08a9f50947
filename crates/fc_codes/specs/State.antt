-- Where the cards of a board stand, seen from the board that a search starts from, and the numbers that say so.
use Rattle.std.specs.Prelude.{◌≡◌, ℕ, ◌+◌, ◌<◌, nat_lt, if◌then◌else◌, length, Some, List, [], ◌∷◌, ◌++◌, slice_index}
use Rattle.std.specs.Int.{bit_at}
use Rattle.fc_cards.specs.Card.{rank, suit}
use Rattle.fc_position.specs.Board.{Board, column, cell, IsHome}

-- the card stands in a column, on these cards, the deepest first
pub record StandsOn (b : Board) (below : List ℕ) (c : ℕ) : Type 0 where
  pub number : ℕ
  pub above : List ℕ
  pub cards : column b number ≡ below ++ c ∷ above

-- the card is in a cell
pub record IsInCell (b : Board) (c : ℕ) : Type 0 where
  pub number : ℕ
  pub held : cell b number ≡ Some c

-- the card stands in a column where it stood at the start: on the same cards, in the same order
pub record IsUnmoved (s b : Board) (c : ℕ) : Type 0 where
  pub below : List ℕ
  pub here : StandsOn b below c
  pub before : StandsOn s below c

-- the card stands on this one, which is one rank higher
pub record StandsInOrder (b : Board) (c l : ℕ) : Type 0 where
  pub below : List ℕ
  pub here : StandsOn b (below ++ l ∷ []) c
  pub higher : rank c + 1 ≡ rank l

-- what the state n says of a card of the board b, where s is the board at the start: 0 that it is where it was at the
-- start, 1 that it is home, 2 that it is in a cell; of other cards 3 that it is its column's deepest, and 4 to 7 that it
-- stands on the card one rank higher of the suit 0 to 3
pub data IsStateOf (s b : Board) (c n : ℕ) : Type 0 where
  unmoved : n ≡ 0 → IsUnmoved s b c → IsStateOf s b c n
  at_home : n ≡ 1 → IsHome b.homes c → IsStateOf s b c n
  in_cell : n ≡ 2 → IsInCell b c → IsStateOf s b c n
  deepest : n ≡ 3 → StandsOn b [] c → (IsUnmoved s b c → ⊥) → IsStateOf s b c n
  in_order : (l : ℕ) → n ≡ 4 + suit l → StandsInOrder b c l → (IsUnmoved s b c → ⊥) → IsStateOf s b c n

-- the code of the board b, where s is the board at the start: the state of each card
pub record IsCodeOf (s b : Board) (code : List ℕ) : Type 0 where
  pub count : length code ≡ 52
  pub states : (c : ℕ) → c < 52 → IsStateOf s b c (slice_index code c)

-- the bits are of the cards that have moved, by the code
abbrev pub AreMoved : List ℕ → ℕ → Type 0
AreMoved code bits = (c : ℕ) → c < 52 → bit_at bits c ≡ (if nat_lt 0 (slice_index code c) then 1 else 0)
