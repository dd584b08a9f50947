-- Which cards go home without loss. The counts of the cards that are home decide it; where the card lies does not.
use Rattle.std.specs.Prelude.{ℕ, zero, suc, List, ◌⊎◌}
use Rattle.fc_cards.specs.Card.{rank}
use Rattle.fc_position.specs.Board.{IsHome, IsNext}
use Rattle.fc_moves.specs.GameRules.{GameRules, Stands}

-- the card is next, and each card that may stand on it is home
abbrev pub IsForced : GameRules → List ℕ → ℕ → Type 0
IsForced g homes c = IsNext homes c × ((u : ℕ) → Stands g u c → IsHome homes u)

-- the card is next, and each card that may stand on it is home or goes by the same reasoning, down at most so many ranks
abbrev pub IsFreeWithin : ℕ → GameRules → List ℕ → ℕ → Type 0
IsFreeWithin zero g homes c = ⊥
IsFreeWithin (suc depth) g homes c = IsNext homes c × ((u : ℕ) → Stands g u c → IsHome homes u ⊎ IsFreeWithin depth g homes u)

-- the same by falling rank, down to the ace
abbrev pub IsFree : GameRules → List ℕ → ℕ → Type 0
IsFree g homes c = IsFreeWithin (rank c) g homes c

-- the card goes home by the rule: by rule 0 none, by rule 1 the forced ones, by rule 2 the free ones
abbrev pub GoesHome : ℕ → GameRules → List ℕ → ℕ → Type 0
GoesHome zero g homes c = ⊥
GoesHome (suc zero) g homes c = IsForced g homes c
GoesHome (suc (suc more)) g homes c = IsFree g homes c
