-- The texts of cards, as lists of bytes.
use Rattle.std.specs.Prelude.{◌≡◌, ℕ, ◌-◌, ◌≤◌, ◌⊎◌, List, [], ◌∷◌, ◌++◌, codes, slice_index}
use Rattle.std.specs.Char.{to_ascii_uppercase}
use Rattle.fc_cards.specs.Card.{rank, suit}

-- a rank is 1 to 13
pub record IsRank (r : ℕ) : Type 0 where
  pub least : 1 ≤ r
  pub greatest : r ≤ 13

-- the letter of a rank
abbrev pub rank_letter : ℕ → ℕ
rank_letter r = slice_index (codes "A23456789TJQK") (r - 1)

-- the letter of the suit with this number
abbrev pub suit_letter : ℕ → ℕ
suit_letter s = slice_index (codes "CDHS") s

-- a card is printed as its rank's letter and its suit's letter
abbrev pub card_text : ℕ → List ℕ
card_text c = rank_letter (rank c) ∷ suit_letter (suit c) ∷ []

-- a line is ended by LF
abbrev pub with_line_end : List ℕ → List ℕ
with_line_end line = line ++ 10 ∷ []

-- a suit is read from its letter, in either case
abbrev pub IsSuitText : ℕ → ℕ → Type 0
IsSuitText s byte = to_ascii_uppercase byte ≡ suit_letter s

-- a rank is read from its letter, in either case, and ten from `10` too
abbrev pub IsRankText : ℕ → List ℕ → Type 0
IsRankText r text =
    ((byte : ℕ) × (text ≡ byte ∷ []) × (to_ascii_uppercase byte ≡ rank_letter r)) ⊎ ((r ≡ 10) × (text ≡ codes "10"))

-- a card is read from a text of its rank and then one of its suit, with nothing before, between or after
pub record IsCardText (c : ℕ) (text : List ℕ) : Type 0 where
  pub rank_part : List ℕ
  pub suit_part : ℕ
  pub parts : text ≡ rank_part ++ suit_part ∷ []
  pub spells_rank : IsRankText (rank c) rank_part
  pub spells_suit : IsSuitText (suit c) suit_part
