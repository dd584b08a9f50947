-- What is known of which next cards are free.
use Rattle.std.specs.Prelude.{ℕ, Bool, true, false, Option, Some, None, List, slice_index, slice_index_or, IsTrue, ◌+◌, ◌<◌, ◌≤◌, ◌↔◌}
use Rattle.fc_cards.specs.Card.{rank, suit}
use Rattle.fc_position.specs.Board.{IsNext}
use Rattle.fc_moves.specs.GameRules.{GameRules}
use Rattle.fc_home.specs.HomeRule.{IsFree}

-- every card of a lower rank is home
abbrev pub IsLevel : List ℕ → ℕ → Type 0
IsLevel homes c = (s : ℕ) → s < 4 → rank c ≤ slice_index homes s + 1

-- the answer that is kept for a suit, if there is one
abbrev pub answer_of : List (Option Bool) → ℕ → Option Bool
answer_of answers s = slice_index_or answers s None

-- an answer, if there is one, tells whether something holds
abbrev pub Tells : Option Bool → Type 0 → Type 0
Tells None P = Unit {0}
Tells (Some answer) P = IsTrue answer ↔ P

-- the answers that are kept by suit tell whether the next card of the suit is free
abbrev pub IsKnown : GameRules → List ℕ → List (Option Bool) → Type 0
IsKnown g homes answers = (c : ℕ) → IsNext homes c → Tells (answer_of answers (suit c)) (IsFree g homes c)

-- what stays of an answer while others go home: that a card is free
abbrev pub lasting_answer : Option Bool → Option Bool
lasting_answer None = None
lasting_answer (Some true) = Some true
lasting_answer (Some false) = None
