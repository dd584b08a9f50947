-- The clearing bound: what it costs to take all cards out of their columns, in the best order.
use Rattle.std.specs.Prelude.{ℕ, zero, suc, ◌+◌, Bool, false, cond, min, length, List, [], ◌∷◌, Option, Some, None, slice_set, slice_index_or, sum_by, count_by}
use Rattle.std.specs.List.{list_any}
use Rattle.fc_position.specs.Board.{Board, last_of, front_of}
use Rattle.fc_cards.specs.Card.{all_cards}
use Rattle.fc_bound.specs.Bound.{is_away, is_lower}

-- a lower card of its own suit stands in some column; where there is no card, none waits
abbrev pub waits : List (List ℕ) → Option ℕ → Bool
waits columns None = false
waits columns (Some u) = list_any (list_any (is_lower u)) columns

-- what it costs to take the last card out of a column: one if it waits, and nothing otherwise
abbrev pub fee : List (List ℕ) → ℕ → ℕ
fee columns i = cond (waits columns (last_of (slice_index_or columns i []))) 1 0

-- the columns without the last card of one of them
abbrev pub without : List (List ℕ) → ℕ → List (List ℕ)
without columns i = slice_set columns i (front_of (slice_index_or columns i []))

-- how many cards stand in the columns
abbrev pub cards_in : List (List ℕ) → ℕ
cards_in columns = sum_by length columns

-- what it costs to take cards out in this order, given by their columns; what is left at its end goes for one each
abbrev pub order_cost : List (List ℕ) → List ℕ → ℕ
order_cost columns [] = cards_in columns
order_cost columns (i ∷ order) = fee columns i + order_cost (without columns i) order

-- the least of a number and of what is said of each number below n
abbrev pub least_of : ℕ → (ℕ → ℕ) → ℕ → ℕ
least_of most f zero = most
least_of most f (suc n) = min (least_of most f n) (f n)

-- the least cost over all orders of so many cards at most
unfoldable pub least_cost : ℕ → List (List ℕ) → ℕ
least_cost zero columns = cards_in columns
least_cost (suc count) columns =
    least_of (cards_in columns) (λ i. fee columns i + least_cost count (without columns i)) (length columns)

-- the least cost over all orders
unfoldable pub clearing_cost : List (List ℕ) → ℕ
clearing_cost columns = least_cost (cards_in columns) columns

-- the clearing bound: how many cards are not home, and the least cost of taking all cards out of their columns
unfoldable pub clearing_bound : Board → ℕ
clearing_bound b = count_by (is_away b) all_cards + clearing_cost b.columns
