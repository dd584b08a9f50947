-- How many moves a board needs at least.
use Rattle.std.specs.Prelude.{◌≡◌, ℕ, ◌+◌, ◌<◌, ◌==◌, ◌&&◌, ◌||◌, Bool, false, nat_lt, List, [], ◌∷◌, Some, slice_get, slice_index_or, count_by, IsTrue}
use Rattle.std.specs.List.{list_any}
use Rattle.fc_cards.specs.Card.{rank, suit, all_cards}
use Rattle.fc_cards.specs.declared.places.Place.{Place}
use Rattle.fc_position.specs.Board.{Board, home, playable}

-- the card is not home
abbrev pub is_away : Board → ℕ → Bool
is_away b c = nat_lt (home b (suit c)) (rank c)

-- d is a lower card of the suit of c
abbrev pub is_lower : ℕ → ℕ → Bool
is_lower c d = (suit d == suit c) && nat_lt (rank d) (rank c)

-- the card stands among these
abbrev pub stands_in : List ℕ → ℕ → Bool
stands_in cards c = list_any (λ d. d == c) cards

-- in a column, the deepest card first, the card stands above a lower card of its own suit
abbrev pub is_above_lower : ℕ → List ℕ → Bool
is_above_lower c [] = false
is_above_lower c (d ∷ above) = (is_lower c d && stands_in above c) || is_above_lower c above

-- the card stands above a lower card of its own suit in some column
abbrev pub is_held_back : Board → ℕ → Bool
is_held_back b c = list_any (is_above_lower c) b.columns

-- the card that may be taken from the place is such a card
abbrev pub PlayableIsHeldBack : Board → Place → Type 0
PlayableIsHeldBack b from = (c : ℕ) × (playable b from ≡ Some c) × IsTrue (is_held_back b c)

-- to be held back, said of two places of one column, of which the deeper one has the lower card
pub record StandsAboveLower (b : Board) (c : ℕ) : Type 0 where
  pub column : ℕ
  pub place : ℕ
  pub deeper : ℕ
  pub lower : ℕ
  pub order : deeper < place
  pub card : slice_get (slice_index_or b.columns column []) place ≡ Some c
  pub below : slice_get (slice_index_or b.columns column []) deeper ≡ Some lower
  pub suits : suit lower ≡ suit c
  pub ranks : rank lower < rank c

-- the plain bound: how many cards are not home, and how many stand above a lower card of their own suit
unfoldable pub bound : Board → ℕ
bound b = count_by (is_away b) all_cards + count_by (is_held_back b) all_cards
