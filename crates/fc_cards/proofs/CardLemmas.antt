-- Which numbers are cards.
use Rattle.std.specs.Prelude.{ℕ, ◌<◌, Contains}
use Rattle.std.specs.List.{range_with_len}
use Rattle.std.proofs.Common.{zero-add, ◌∙◌, arith}
use Rattle.std.proofs.lemmas.List.FromFn.{get_or-range_with_len, length-range_with_len}
use Rattle.fc_cards.specs.Card.{all_cards}

-- the first n numbers are those below n
range-has : (n c : ℕ) → c < n → Contains (range_with_len 0 n) c
range-has n c below = (c, omega (arith, length-range_with_len 0 n), get_or-range_with_len 0 n c c below ∙ zero-add c)

range-only : (n c : ℕ) → Contains (range_with_len 0 n) c → c < n
range-only n c (k, below, e) =
    let within : k < n = omega (arith, length-range_with_len 0 n) in
    omega (arith, e, get_or-range_with_len 0 n k c within)

-- every number below 52 is a card, and no other
pub every_card : (c : ℕ) → c < 52 → Contains all_cards c
unfolding all_cards
every_card c below = range-has 52 c below

pub only_cards : (c : ℕ) → Contains all_cards c → c < 52
unfolding all_cards
only_cards c found = range-only 52 c found
