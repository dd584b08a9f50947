-- What sets one game apart from another, as plain data, and the games that come with the program, within the crate.
use Rattle.std.specs.Prelude.{◌≡◌, ℕ, ◌+◌, ◌<◌, ◌⊎◌}
use Rattle.fc_cards.specs.Card.{rank, suit}

-- the card u is one rank below a card, and of one of two suits
abbrev pub IsLowerOf : ℕ → ℕ → ℕ → ℕ → Type 0
IsLowerOf card low high u = (u < 52) × (rank u + 1 ≡ rank card) × ((suit u ≡ low) ⊎ (suit u ≡ high))
