-- Numbered deals: the draws take the cards out of a list that shrinks, and the cards go along the columns.
use Rattle.std.specs.Prelude.{ℕ, zero, suc, ◌+◌, ◌-◌, ◌*◌, ◌/◌, ◌%◌, ◌≤◌, length, List, None, slice_index, replicate, map}
use Rattle.std.specs.List.{range_with_len, swap_remove}
use Rattle.fc_cards.specs.Card.{all_cards}
use Rattle.fc_position.specs.Board.{Board}
use Rattle.fc_deal.specs.Draw.{draw}

-- the numbers that name a deal
pub record IsDealNumber (n : ℕ) : Type 0 where
  pub least : 1 ≤ n
  pub greatest : n ≤ 1000000

-- which of these cards a draw picks: the draw modulo how many there are
abbrev pub place_drawn : ℕ → List ℕ → ℕ
place_drawn number cards = number % length cards

-- what is left of the deck when k cards of game n are taken: each draw takes one out, the last moving into its place
unfoldable pub deck_after : ℕ → ℕ → List ℕ
deck_after n zero = all_cards
deck_after n (suc k) = swap_remove (deck_after n k) (place_drawn (draw n (suc k)) (deck_after n k)) 0

-- the card that is taken when k cards are taken already
abbrev pub card_drawn : ℕ → ℕ → ℕ
card_drawn n k = slice_index (deck_after n k) (place_drawn (draw n (k + 1)) (deck_after n k))

-- column j when k cards are dealt: the i-th card taken, i from 0, stands in column i mod 8 at depth i div 8
abbrev pub dealt_column : ℕ → ℕ → ℕ → List ℕ
dealt_column n k j = map (λ depth. card_drawn n (8 * depth + j)) (range_with_len 0 ((k + 7 - j) / 8))

-- the eight columns when k cards are dealt
unfoldable pub dealt_columns : ℕ → ℕ → List (List ℕ)
dealt_columns n k = map (dealt_column n k) (range_with_len 0 8)

-- the board of game n: all cards in the columns
unfoldable pub dealt_board : ℕ → Board
dealt_board n = record { columns = dealt_columns n 52; cells = replicate 4 None; homes = replicate 4 0 }
