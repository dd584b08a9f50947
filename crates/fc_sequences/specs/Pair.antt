-- Entries of lists in standard notation, one of which may move several cards: their texts, and what they do.
use Rattle.std.specs.Prelude.{◌≡◌, ℕ, ◌+◌, ◌<◌, ◌≤◌, nat_le, cond, length, List, [], ◌∷◌, map, Option, Some, None, IfSome}
use Rattle.std.specs.Char.{to_ascii_lowercase}
use Rattle.fc_cards.specs.declared.places.Place.{Place}
use Rattle.fc_cards.specs.declared.places.Place.TheVariants.{Column}
use Rattle.fc_position.specs.Board.{Board}
use Rattle.fc_moves.specs.GameRules.{GameRules}
use Rattle.fc_moves.specs.MoveText.{IsSource, IsThere, place_letter}
use Rattle.fc_moves.specs.Step.{Step}
use Rattle.fc_sequences.specs.declared.pairs.Pair.{Pair}
use Rattle.fc_sequences.specs.Carry.{carry_moves}
use Rattle.fc_sequences.specs.Sequence.{MayCarry, board_after_carry, free_cells, spare_columns}

-- a number below 16 in hexadecimal, in small letters
abbrev pub hexadecimal : ℕ → ℕ
hexadecimal n = cond (nat_le 10 n) (87 + n) (48 + n)

-- how many cards, where it is told: `v` and the number in hexadecimal
abbrev pub count_text : Option ℕ → List ℕ
count_text None = []
count_text (Some n) = 118 ∷ hexadecimal n ∷ []

-- the source, the destination, and perhaps the number
abbrev pub pair_text : Pair → List ℕ
pair_text p = place_letter p.from ∷ place_letter p.to ∷ count_text p.count

-- entries that have a text: from a column or a cell to a place that is there, and a number from 1 to 15
pub record HasPairText (p : Pair) : Type 0 where
  pub from : IsSource p.from
  pub to : IsThere p.to
  pub count : IfSome p.count (λ n. (1 ≤ n) × (n < 16))

-- the token is the entry's text, in either case
abbrev pub SpellsPair : List ℕ → Pair → Type 0
SpellsPair token p = HasPairText p × (map to_ascii_lowercase token ≡ pair_text p)

-- the token is no entry's text
abbrev pub IsNoPair : List ℕ → Type 0
IsNoPair token = (p : Pair) → SpellsPair token p → ⊥

-- so many cards are played from the one place to the other, and this is the board after it: from column to column a
-- sequence, else one card
abbrev pub PlaysCards : GameRules → Board → Place → Place → ℕ → Board → Type 0
PlaysCards g b (Column i) (Column j) k c = MayCarry g b i j k × (c ≡ board_after_carry b i j k)
PlaysCards g b from to k c = (k ≡ 1) × Step g b (record { from = from; to = to }) c

-- how many one-card moves that takes: from column to column as many as carry the cards over the free cells and the spare columns,
-- else one
abbrev pub moves_for : GameRules → Board → Place → Place → ℕ → ℕ
moves_for g b (Column i) (Column j) k = carry_moves (length (free_cells g b)) (length (spare_columns b j)) k
moves_for g b from to k = 1

-- the entry is played with so many cards, which are as many as it tells, where it tells any
abbrev pub PlaysBy : GameRules → Board → Pair → ℕ → Board → Type 0
PlaysBy g b p k c = IfSome p.count (λ n. k ≡ n) × PlaysCards g b p.from p.to k c

-- the entry is played with some number of cards
abbrev pub PlaysPair : GameRules → Board → Pair → Board → Type 0
PlaysPair g b p c = (k : ℕ) × PlaysBy g b p k c
