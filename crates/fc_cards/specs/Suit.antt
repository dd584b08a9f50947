use Rattle.std.specs.Prelude.{ℕ}
use Rattle.fc_cards.specs.declared.suits.Suit.{Suit}
use Rattle.fc_cards.specs.declared.suits.Suit.TheVariants.{C, D, H, S}

-- the number of a suit
abbrev pub suit_index : Suit → ℕ
suit_index C = 0
suit_index D = 1
suit_index H = 2
suit_index S = 3
