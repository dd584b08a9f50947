-- The cards of which a first visit leaves the moves out, within the crate.
use Rattle.std.specs.Prelude.{◌≡◌, ℕ, false, Some, List, ◌++◌, Contains}
use Rattle.std.specs.Int.{bit_at}
use Rattle.fc_cards.specs.Card.{suit}
use Rattle.fc_cards.specs.declared.places.Place.{Place}
use Rattle.fc_position.specs.Board.{Board, IsNext, board_without, playable}
use Rattle.fc_moves.specs.declared.steps.Move.{Move}
use Rattle.fc_moves.specs.GameRules.{GameRules}
use Rattle.fc_moves.specs.Class.{SameClass}
use Rattle.fc_moves.specs.Step.{Allows, Step}
use Rattle.fc_bound.specs.Bound.{is_held_back}

-- the card is of this suit, and next in it
abbrev pub IsNextIn : List ℕ → ℕ → ℕ → Type 0
IsNextIn homes s c = IsNext homes c × (suit c ≡ s)

-- a playable card is idle: it isn't next in its suit, lies above no lower card of its suit, isn't noted, and lies on no card that is
-- next in its suit
pub record IsIdle (b : Board) (note : ℕ) (from : Place) (u : ℕ) : Type 0 where
  pub next : IsNext b.homes u → ⊥
  pub held : is_held_back b u ≡ false
  pub noted : bit_at note u ≡ 0
  pub beneath : (c : ℕ) → playable (board_without b from) from ≡ Some c → IsNext b.homes c → ⊥

-- the moves and those that are left out lead to each class to which a move leads, and only moves of idle cards are left out
pub record LeavesIdle (g : GameRules) (b : Board) (note : ℕ) (left moves : List Move) : Type 0 where
  pub allowed : (m : Move) → Contains (left ++ moves) m → Allows g b m
  pub complete : (m : Move) (x : Board) → Step g b m x
      → (n : Move) × (y : Board) × Contains (left ++ moves) n × Step g b n y × SameClass x y
  pub idle : (m : Move) (u : ℕ) → Contains left m → playable b m.from ≡ Some u → IsIdle b note m.from u
