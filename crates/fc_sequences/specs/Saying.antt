-- Entries in words, as Freecell Solver prints them: such as `Move 2 cards from stack 1 to stack 4`.
use Rattle.std.specs.Prelude.{◌≡◌, ℕ, ◌+◌, nat_le, cond, List, [], ◌∷◌, Option, Some, None, codes}
use Rattle.fc_cards.specs.declared.places.Place.{Place}
use Rattle.fc_cards.specs.declared.places.Place.TheVariants.{Column, Cell, Home}
use Rattle.fc_sequences.specs.declared.pairs.Pair.{Pair}
use Rattle.fc_sequences.specs.Pair.{HasPairText}

-- a number below 20 in decimal
abbrev pub digits : ℕ → List ℕ
digits n = cond (nat_le 10 n) (49 ∷ (38 + n) ∷ []) ((48 + n) ∷ [])

-- how many cards are moved: `a card`, or their number
abbrev pub number_word : Option ℕ → List ℕ
number_word None = codes "a"
number_word (Some n) = digits n

abbrev pub card_word : Option ℕ → List ℕ
card_word None = codes "card"
card_word (Some n) = codes "cards"

-- a place: columns and cells are counted from 0
abbrev pub kind_word : Place → List ℕ
kind_word (Column i) = codes "stack"
kind_word (Cell i) = codes "freecell"
kind_word Home = codes "the"

abbrev pub name_word : Place → List ℕ
name_word (Column i) = digits i
name_word (Cell i) = digits i
name_word Home = codes "foundations"

-- the words of an entry
abbrev pub pair_words : Pair → List (List ℕ)
pair_words p = codes "Move" ∷ number_word p.count ∷ card_word p.count ∷ codes "from" ∷ kind_word p.from ∷ name_word p.from
    ∷ codes "to" ∷ kind_word p.to ∷ name_word p.to ∷ []

-- the words tell the entry
abbrev pub SaysPair : List (List ℕ) → Pair → Type 0
SaysPair words p = HasPairText p × (words ≡ pair_words p)

-- the words tell no entry
abbrev pub SaysNoPair : List (List ℕ) → Type 0
SaysNoPair words = (p : Pair) → SaysPair words p → ⊥
