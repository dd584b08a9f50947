-- Which moves from a position lead to boards of one class, and which of them is listed.
use Rattle.std.specs.Prelude.{◌≡◌, ◌<◌, ◌≤◌, ◌==◌, ◌↔◌, ℕ, Bool, false, IsTrue, Option, Some, None, length, List, Contains, filter, slice_index_or}
use Rattle.std.specs.Int.{bit_at}
use Rattle.fc_position.specs.Board.{Board, playable}
use Rattle.fc_moves.specs.declared.steps.Move.{Move}
use Rattle.fc_moves.specs.GameRules.{GameRules}
use Rattle.fc_moves.specs.Step.{Step, Allows, move_number}
use Rattle.fc_moves.specs.Class.{SameClass}

-- the list has allowed moves alone, to each class that a move leads to exactly one
pub record ListsClasses (g : GameRules) (b : Board) (moves : List Move) : Type 0 where
  pub allowed : (m : Move) → Contains moves m → Allows g b m
  pub complete : (m : Move) (x : Board) → Step g b m x
      → (n : Move) × (y : Board) × Contains moves n × Step g b n y × SameClass x y
  pub apart : (i j : ℕ) (d : Move) (x y : Board) → i < j → j < length moves → Step g b (slice_index_or moves i d) x
      → Step g b (slice_index_or moves j d) y → SameClass x y → ⊥

-- the moves stand by rising number: by source, and of one source by destination
abbrev pub AreInOrder : List Move → Type 0
AreInOrder moves = (i j : ℕ) (d : Move) → i < j → j < length moves
    → move_number (slice_index_or moves i d) < move_number (slice_index_or moves j d)

-- of the moves that lead to one class, each listed one has the least number
abbrev pub AreFirst : GameRules → Board → List Move → Type 0
AreFirst g b moves = (m n : Move) (x y : Board) → Contains moves m → Step g b m x → Step g b n y → SameClass x y
    → move_number m ≤ move_number n

-- the card has its bit set in the cards that are wanted
abbrev pub is_wanted : ℕ → Option ℕ → Bool
is_wanted cards None = false
is_wanted cards (Some u) = bit_at cards u == 1

-- the move takes a card that is wanted
abbrev pub takes_wanted : Board → ℕ → Move → Bool
takes_wanted b cards m = is_wanted cards (playable b m.from)

-- of one list of the first move to each class, these are the moves that take a wanted card, in its order; the test tells
-- whether it has others
pub record ListsWanted (g : GameRules) (b : Board) (cards : ℕ) (moves : List Move) (others : Bool) : Type 0 where
  pub all : List Move
  pub classes : ListsClasses g b all
  pub first : AreFirst g b all
  pub order : AreInOrder all
  pub picked : moves ≡ filter (takes_wanted b cards) all
  pub left_out : IsTrue others ↔ ((m : Move) × Contains all m × (takes_wanted b cards m ≡ false))
