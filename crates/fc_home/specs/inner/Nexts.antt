-- The next cards of the four suits, where they are playable.
use Rattle.std.specs.Prelude.{◌≡◌, ℕ, ◌<◌, ◌≤◌, ◌⊎◌, length, Option, Some, None, List, slice_index_or}
use Rattle.fc_cards.specs.Card.{suit}
use Rattle.fc_cards.specs.declared.places.Place.{Place}
use Rattle.fc_position.specs.Board.{Board, IsNext, playable}
use Rattle.fc_moves.specs.Step.{place_number}
use Rattle.fc_home.specs.declared.settling.Goer.{Goer}

-- what a list has for a suit
abbrev pub goer_of : List (Option Goer) → ℕ → Option Goer
goer_of nexts s = slice_index_or nexts s None

-- the list has, by suit, next cards and where they lie playable, among them each one that lies at a place with a number
-- below n and of which something holds
pub record HasNexts (P : ℕ → Type 0) (b : Board) (n : ℕ) (nexts : List (Option Goer)) : Type 0 where
  pub four : length nexts ≡ 4
  pub lies : (s : ℕ) (goer : Goer) → goer_of nexts s ≡ Some goer → playable b goer.from ≡ Some goer.card
  pub next : (s : ℕ) (goer : Goer) → goer_of nexts s ≡ Some goer → IsNext b.homes goer.card
  pub suits : (s : ℕ) (goer : Goer) → goer_of nexts s ≡ Some goer → suit goer.card ≡ s
  pub each : (from : Place) (c : ℕ) → place_number from < n → playable b from ≡ Some c → P c
      → (goer : Goer) × (goer_of nexts (suit c) ≡ Some goer)

-- of what the list has for the suits below n, this is the first by the number of its card; it has none
abbrev pub IsLeastBelow : ℕ → List (Option Goer) → Option Goer → Type 0
IsLeastBelow n nexts None = (s : ℕ) → s < n → goer_of nexts s ≡ None
IsLeastBelow n nexts (Some goer) =
    ((s : ℕ) × (goer_of nexts s ≡ Some goer)) × ((s : ℕ) (other : Goer) → s < n → goer_of nexts s ≡ Some other → goer.card ≤ other.card)

-- of two, the one with the lower number, if there is one
abbrev pub IsEarlier : Option Goer → Option Goer → Option Goer → Type 0
IsEarlier None other result = result ≡ other
IsEarlier (Some a) None result = result ≡ Some a
IsEarlier (Some a) (Some b) result = ((a.card ≤ b.card) × (result ≡ Some a)) ⊎ ((b.card < a.card) × (result ≡ Some b))
