-- The knot bound: knots that are taken out of the columns one after another.
use Rattle.std.specs.Prelude.{ℕ, zero, suc, ◌+◌, ◌==◌, ◌&&◌, ◌||◌, Bool, true, false, not, cond, map, List, [], ◌∷◌, Option, Some, None, count_by}
use Rattle.std.specs.List.{list_any}
use Rattle.fc_position.specs.Board.{Board, last_of, front_of}
use Rattle.fc_cards.specs.Card.{all_cards}
use Rattle.fc_bound.specs.Bound.{is_away}
use Rattle.fc_bound.specs.Clearing.{waits, cards_in}

-- the column has a last card
abbrev pub has_last : Option ℕ → Bool
has_last None = false
has_last (Some u) = true

-- the last card is this one
abbrev pub ends_with : ℕ → Option ℕ → Bool
ends_with u None = false
ends_with u (Some v) = v == u

-- the last card of a column waits for a card of another
abbrev pub waits_in : List ℕ → List ℕ → Bool
waits_in column other = waits (other ∷ []) (last_of column)

-- the last card of a column waits for a card beneath it
abbrev pub waits_above : List ℕ → Bool
waits_above column = waits_in column column

-- the last card of a column may leave at once: it waits for none, or it waits for a card beneath it
abbrev pub is_loose : List (List ℕ) → List ℕ → Bool
is_loose columns column = has_last (last_of column) && (not (waits columns (last_of column)) || waits_above column)

-- the last cards of two columns wait for cards of each other's
abbrev pub are_knotted : List ℕ → List ℕ → Bool
are_knotted a b = waits_in a b && waits_in b a

-- the first of these cards that passes the test, 52 where none does
abbrev pub first_with : (ℕ → Bool) → List ℕ → ℕ
first_with test [] = 52
first_with test (c ∷ cards) = cond (test c) c (first_with test cards)

-- the least last card of the columns that pass the test, 52 where none does
abbrev pub least_last : (List ℕ → Bool) → List (List ℕ) → ℕ
least_last test columns = first_with (λ u. list_any (λ column. test column && ends_with u (last_of column)) columns) all_cards

-- the least last card of a column that is knotted with another
abbrev pub first_knotted : List (List ℕ) → ℕ
first_knotted columns = least_last (λ column. list_any (are_knotted column) columns) columns

-- the least last card of a column that is knotted with that one's
abbrev pub second_knotted : List (List ℕ) → ℕ
second_knotted columns =
    least_last (λ column. list_any (λ other. ends_with (first_knotted columns) (last_of other) && are_knotted other column) columns) columns

-- the card is the last one of a column
abbrev pub ends_among : List (List ℕ) → ℕ → Bool
ends_among columns u = list_any (λ column. ends_with u (last_of column)) columns

-- the last card of a column is of a set of cards; where there is no card, it isn't
abbrev pub is_among : (ℕ → Bool) → Option ℕ → Bool
is_among set None = false
is_among set (Some u) = set u

-- the last card of this column waits for a card of a column whose last card is of the set
abbrev pub waits_among : List (List ℕ) → (ℕ → Bool) → List ℕ → Bool
waits_among columns set column = list_any (λ other. is_among set (last_of other) && waits_in column other) columns

-- the last card of this column is of the set, and waits for no card of a column whose last card is of the set
abbrev pub is_astray : List (List ℕ) → (ℕ → Bool) → List ℕ → Bool
is_astray columns set column = is_among set (last_of column) && not (waits_among columns set column)

-- a ring: some last card is of the set, and each that is waits for a card of a column whose last card is of the set
abbrev pub is_ring : List (List ℕ) → (ℕ → Bool) → Bool
is_ring columns set = list_any (λ column. is_among set (last_of column)) columns && not (list_any (is_astray columns set) columns)

-- the set without one card
abbrev pub all_but : ℕ → (ℕ → Bool) → ℕ → Bool
all_but u set c = set c && not (c == u)

-- the set without this card, where that is a ring; else the set
abbrev pub leave_out : List (List ℕ) → ℕ → (ℕ → Bool) → ℕ → Bool
leave_out columns u set = cond (is_ring columns (all_but u set)) (all_but u set) set

-- the set, where each of these cards in turn is left out if a ring is left without it
abbrev pub leave_out_each : List (List ℕ) → List ℕ → (ℕ → Bool) → ℕ → Bool
leave_out_each columns [] set = set
leave_out_each columns (u ∷ cards) set = leave_out_each columns cards (leave_out columns u set)

-- a ring of last cards: of all of them, each is left out, the least first, if a ring is left without it
unfoldable pub ring : List (List ℕ) → ℕ → Bool
ring columns = leave_out_each columns all_cards (ends_among columns)

-- the last card of the column is one of the two that are knotted; where no two are, it is of the ring
abbrev pub is_in_knot : List (List ℕ) → List ℕ → Bool
is_in_knot columns column =
    cond (first_knotted columns == 52) (is_among (ring columns) (last_of column))
    (ends_with (first_knotted columns) (last_of column) || ends_with (second_knotted columns) (last_of column))

-- the columns, where those that pass the test have lost their last card
abbrev pub without_last_where : (List ℕ → Bool) → List (List ℕ) → List (List ℕ)
without_last_where test columns = map (λ column. cond (test column) (front_of column) column) columns

-- how many knots are met in so many steps: loose cards go first, at one where they wait for a card beneath them; where
-- none is loose, two knotted columns, or else those of a ring, lose their last card, at one
unfoldable pub knots : ℕ → List (List ℕ) → ℕ
knots zero columns = 0
knots (suc steps) columns =
    cond (list_any (is_loose columns) columns)
    (count_by waits_above columns + knots steps (without_last_where (is_loose columns) columns))
    (cond (list_any (λ column. has_last (last_of column)) columns) (1 + knots steps (without_last_where (is_in_knot columns) columns)) 0)

-- how many knots are met until no card is left
unfoldable pub knot_count : List (List ℕ) → ℕ
knot_count columns = knots (cards_in columns) columns

-- the knot bound: how many cards are not home, and how many knots are met
unfoldable pub knot_bound : Board → ℕ
knot_bound b = count_by (is_away b) all_cards + knot_count b.columns
