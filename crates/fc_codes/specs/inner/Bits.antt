-- Cards as bits of a word, by their numbers.
use Rattle.std.specs.Prelude.{ℕ, ◌==◌, filter, List}
use Rattle.std.specs.Int.{bit_at}
use Rattle.fc_cards.specs.Card.{all_cards}

-- the cards whose bits are set, by rising number
unfoldable pub cards_of : ℕ → List ℕ
cards_of bits = filter (λ c. bit_at bits c == 1) all_cards
