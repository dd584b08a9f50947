-- How codes change where cards move and go home.
use Rattle.std.specs.Prelude.{◌≡◌, ℕ, ◌<◌, ◌≤◌, ◌⊎◌, List}
use Rattle.fc_cards.specs.Card.{rank, suit}
use Rattle.fc_position.specs.Board.{Board, IsHome}
use Rattle.fc_moves.specs.declared.steps.Move.{Move}
use Rattle.fc_moves.specs.GameRules.{GameRules}
use Rattle.fc_moves.specs.Step.{Step}
use Rattle.fc_codes.specs.State.{IsCodeOf}

-- the code is that of where the move leads
abbrev pub IsCodeAfter : Board → GameRules → Board → Move → List ℕ → Type 0
IsCodeAfter s g b m code = (z : Board) → Step g b m z → IsCodeOf s z code

-- a state is 1, home, where this holds, and else the old one
abbrev pub IsSent : Type 0 → ℕ → ℕ → Type 0
IsSent P old state = ((state ≡ 1) × P) ⊎ ((state ≡ old) × (P → ⊥))

-- the card is of the suit, and its rank is above the one and no higher than the other
pub record IsBetween (u low high c : ℕ) : Type 0 where
  pub suited : suit c ≡ u
  pub above : low < rank c
  pub most : rank c ≤ high

-- the card went home between these counts and those
abbrev pub WentHome : List ℕ → List ℕ → ℕ → Type 0
WentHome before homes c = IsHome homes c × (IsHome before c → ⊥)
