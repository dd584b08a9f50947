-- What the number of a card says: four times its rank less one, plus its suit.
use Rattle.std.specs.Prelude.{ℕ, ◌+◌, ◌/◌, ◌%◌, ◌==◌, ◌||◌, Bool, List}
use Rattle.std.specs.List.{range_with_len}

-- the rank, 1 for an ace to 13 for a king
abbrev pub rank : ℕ → ℕ
rank c = c / 4 + 1

-- the suit's number: clubs 0, diamonds 1, hearts 2, spades 3
abbrev pub suit : ℕ → ℕ
suit c = c % 4

-- diamonds and hearts are red, clubs and spades black
abbrev pub is_red : ℕ → Bool
is_red c = (suit c == 1) || (suit c == 2)

-- every card, by number
unfoldable pub all_cards : List ℕ
all_cards = range_with_len 0 52
