-- What the laws of this crate state.
use Rattle.std.specs.Prelude.{◌≡◌, ℕ, ◌+◌, ◌-◌, ◌*◌, ◌<◌, List}
use Rattle.fc_cards.specs.Card.{rank, suit}
use Rattle.fc_cards.specs.Texts.{IsRank, IsCardText, card_text}

-- a card is its rank and its suit
abbrev pub CardsAreRanksAndSuits : Type 0
CardsAreRanksAndSuits = (c : ℕ) → c < 52 → IsRank (rank c) × (suit c < 4) × (c ≡ (rank c - 1) * 4 + suit c)

-- no text spells two cards
abbrev pub TextsSpellOneCard : Type 0
TextsSpellOneCard = (c d : ℕ) (text : List ℕ) → c < 52 → d < 52 → IsCardText c text → IsCardText d text → c ≡ d

-- a card's text spells the card
abbrev pub TextsReadBack : Type 0
TextsReadBack = (c : ℕ) → c < 52 → IsCardText c (card_text c)
