-- How knots are counted step by step, and that no more are met than there are cards.
use Rattle.std.proofs.Common.{◌≡◌, ℕ, ◌+◌, ◌-◌, ◌<◌, ◌≤◌, zero, suc, Bool, true, false, cond, Option, Some, None, List, [], ◌∷◌, length, get_or, refl, ◌∙◌, ap, arith}
use Rattle.std.specs.Prelude.{◌==◌, ◌&&◌, ◌||◌, not, count_by}
use Rattle.std.specs.List.{list_any}
use Rattle.std.proofs.lemmas.List.{length-take-le}
use Rattle.std.proofs.lemmas.List.Sums.{sum_by-cons}
use Rattle.fc_position.specs.Board.{last_of, front_of}
use Rattle.fc_cards.specs.Card.{all_cards}
use Rattle.fc_bound.specs.Clearing.{waits, cards_in}
use Rattle.fc_bound.specs.Knots.{has_last, ends_with, waits_above, is_loose, are_knotted, first_with, first_knotted, second_knotted, is_among, ring, is_in_knot, without_last_where, knots, knot_count}
use Rattle.fc_bound.proofs.AboveLemmas.{or-true}
use Rattle.fc_bound.proofs.HeldLemmas.{found}
use Rattle.fc_bound.proofs.RingLemmas.{among_is, ring_some, knot_ring, knot_two}

-- one step
pub knots_loose : (columns : List (List ℕ)) → list_any (is_loose columns) columns ≡ true → (steps : ℕ)
    → knots (suc steps) columns ≡ count_by waits_above columns + knots steps (without_last_where (is_loose columns) columns)
unfolding knots
knots_loose columns loose steps =
    ap (λ t. cond t (count_by waits_above columns + knots steps (without_last_where (is_loose columns) columns))
    (cond (list_any (λ column. has_last (last_of column)) columns) (1 + knots steps (without_last_where (is_in_knot columns) columns)) 0)) loose

pub knots_knot : (columns : List (List ℕ)) → list_any (is_loose columns) columns ≡ false
    → list_any (λ column. has_last (last_of column)) columns ≡ true → (steps : ℕ)
    → knots (suc steps) columns ≡ 1 + knots steps (without_last_where (is_in_knot columns) columns)
unfolding knots
knots_knot columns none some_last steps =
    ap (λ t. cond t (count_by waits_above columns + knots steps (without_last_where (is_loose columns) columns))
    (cond (list_any (λ column. has_last (last_of column)) columns) (1 + knots steps (without_last_where (is_in_knot columns) columns)) 0)) none
    ∙ ap (λ t. cond t (1 + knots steps (without_last_where (is_in_knot columns) columns)) 0) some_last

pub knots_none : (columns : List (List ℕ)) → list_any (is_loose columns) columns ≡ false
    → list_any (λ column. has_last (last_of column)) columns ≡ false → (steps : ℕ) → knots steps columns ≡ 0
unfolding knots
knots_none columns none no_last zero = refl
knots_none columns none no_last (suc steps) =
    ap (λ t. cond t (count_by waits_above columns + knots steps (without_last_where (is_loose columns) columns))
    (cond (list_any (λ column. has_last (last_of column)) columns) (1 + knots steps (without_last_where (is_in_knot columns) columns)) 0)) none
    ∙ ap (λ t. cond t (1 + knots steps (without_last_where (is_in_knot columns) columns)) 0) no_last

-- a column is no longer where it sheds a card, and shorter where it has one
shed_length : (flag : Bool) (cards : List ℕ) → length (cond flag (front_of cards) cards) ≤ length cards
shed_length true cards = omega (arith, length-take-le (length cards - 1) cards (omega arith))
shed_length false cards = omega arith

front_length : (cards : List ℕ) → has_last (last_of cards) ≡ true → length (front_of cards) + 1 ≡ length cards
front_length [] has = absurd (cc)
front_length (x ∷ cards) has = omega (arith, length-take-le (length (x ∷ cards) - 1) (x ∷ cards) (omega arith))

has_waiting : (columns : List (List ℕ)) (o : Option ℕ) → waits columns o ≡ true → has_last o ≡ true
has_waiting columns None waiting = waiting
has_waiting columns (Some u) waiting = refl

pub above_loose : (columns : List (List ℕ)) (cards : List ℕ) → waits_above cards ≡ true → is_loose columns cards ≡ true
above_loose columns cards above =
    ap (λ t. t && (not (waits columns (last_of cards)) || waits_above cards)) (has_waiting (cards ∷ []) (last_of cards) above)
    ∙ ap (λ t. not (waits columns (last_of cards)) || t) above ∙ or-true (not (waits columns (last_of cards)))

shed_above : (test : List ℕ → Bool) (cards : List ℕ) → (waits_above cards ≡ true → test cards ≡ true)
    → cond (waits_above cards) 1 0 + length (cond (test cards) (front_of cards) cards) ≤ length cards
shed_above test cards loose =
    elim (waits_above cards) as (λ t. waits_above cards ≡ t → cond t 1 0 + length (cond (test cards) (front_of cards) cards) ≤ length cards) [
      | true ↦ λ above.
          let one = ap (λ t. length (cond t (front_of cards) cards)) (loose above) in
          omega (arith, one, front_length cards (has_waiting (cards ∷ []) (last_of cards) above))
      | false ↦ λ _. omega (arith, shed_length (test cards) cards)
    ] refl

shed_few : (test : List ℕ → Bool) (columns : List (List ℕ)) → ((cards : List ℕ) → waits_above cards ≡ true → test cards ≡ true)
    → count_by waits_above columns + cards_in (without_last_where test columns) ≤ cards_in columns
shed_few test [] loose = omega arith
shed_few test (x ∷ columns) loose = omega (
  arith,
  sum_by-cons (λ (cards : List ℕ). cond (waits_above cards) 1 0) x columns,
  sum_by-cons (λ (cards : List ℕ). length cards) x columns,
  sum_by-cons (λ (cards : List ℕ). length cards) (cond (test x) (front_of x) x) (without_last_where test columns),
  shed_above test x (loose x),
  shed_few test columns loose,
)

-- what is shed of a column with a last card are fewer cards
shed_cards : (test : List ℕ → Bool) (columns : List (List ℕ)) → cards_in (without_last_where test columns) ≤ cards_in columns
shed_cards test [] = omega arith
shed_cards test (x ∷ columns) = omega (
  arith,
  sum_by-cons (λ (cards : List ℕ). length cards) x columns,
  sum_by-cons (λ (cards : List ℕ). length cards) (cond (test x) (front_of x) x) (without_last_where test columns),
  shed_length (test x) x,
  shed_cards test columns,
)

pub shed_at : (test : List ℕ → Bool) (columns : List (List ℕ)) (k : ℕ) → k < length columns → test (get_or columns k []) ≡ true
    → has_last (last_of (get_or columns k [])) ≡ true → 1 + cards_in (without_last_where test columns) ≤ cards_in columns
shed_at test [] k inside passes has = absurd (omega (arith, inside))
shed_at test (x ∷ columns) zero inside passes has =
    let one = ap (λ t. length (cond t (front_of x) x)) passes in
    omega (
      arith,
      sum_by-cons (λ (cards : List ℕ). length cards) x columns,
      sum_by-cons (λ (cards : List ℕ). length cards) (cond (test x) (front_of x) x) (without_last_where test columns),
      one,
      front_length x has,
      shed_cards test columns,
    )
shed_at test (x ∷ columns) (suc k) inside passes has = omega (
  arith,
  sum_by-cons (λ (cards : List ℕ). length cards) x columns,
  sum_by-cons (λ (cards : List ℕ). length cards) (cond (test x) (front_of x) x) (without_last_where test columns),
  shed_length (test x) x,
  shed_at test columns k (omega (arith, inside)) passes has,
)

-- the first card that passes does
first_passes : (test : ℕ → Bool) (cards : List ℕ) → (first_with test cards == 52) ≡ false → test (first_with test cards) ≡ true
first_passes test [] none = absurd (no_first none)
  where
    no_first : (52 == 52) ≡ false → ⊥
    no_first e = absurd (cc e)
first_passes test (c ∷ cards) none =
    elim (test c) as (λ t. test c ≡ t → (cond t c (first_with test cards) == 52) ≡ false → test (cond t c (first_with test cards)) ≡ true) [
      | true ↦ λ e _. e
      | false ↦ λ _ later. first_passes test cards later
    ] refl none

both : (s t : Bool) → (s && t) ≡ true → (s ≡ true) × (t ≡ true)
both true t e = (refl, e)
both false t e = absurd (cc e)

has_ending : (u : ℕ) (o : Option ℕ) → ends_with u o ≡ true → has_last o ≡ true
has_ending u None ends = ends
has_ending u (Some v) ends = refl

-- a knot has a card
pub shed_knot : (columns : List (List ℕ)) → list_any (λ column. has_last (last_of column)) columns ≡ true
    → 1 + cards_in (without_last_where (is_in_knot columns) columns) ≤ cards_in columns
shed_knot columns some_last =
    elim (first_knotted columns == 52) as (λ t. (first_knotted columns == 52) ≡ t → 1 + cards_in (without_last_where (is_in_knot columns) columns) ≤ cards_in columns) [
      | true ↦ λ none.
          let f = found (λ column. is_among (ring columns) (last_of column)) columns (ring_some columns some_last) in
          let x : List ℕ = get_or columns f.place [] in
          let last = among_is (ring columns) (last_of x) f.passes in
          shed_at (is_in_knot columns) columns f.place f.inside (knot_ring columns x none ∙ f.passes) (ap has_last last.1)
      | false ↦ λ knotted.
          let first = first_passes (λ u. list_any (λ column. list_any (are_knotted column) columns && ends_with u (last_of column)) columns) all_cards knotted in
          let f = found (λ column. list_any (are_knotted column) columns && ends_with (first_knotted columns) (last_of column)) columns first in
          let x : List ℕ = get_or columns f.place [] in
          let ends = (both (list_any (are_knotted x) columns) (ends_with (first_knotted columns) (last_of x)) f.passes).1 in
          shed_at (is_in_knot columns) columns f.place f.inside
          (knot_two columns x knotted ∙ ap (λ t. t || ends_with (second_knotted columns) (last_of x)) ends)
          (has_ending (first_knotted columns) (last_of x) ends)
    ] refl

-- no more knots are met than there are cards
pub knots_few : (steps : ℕ) (columns : List (List ℕ)) → knots steps columns ≤ cards_in columns
unfolding knots
knots_few zero columns = omega arith
knots_few (suc steps) columns =
    elim (list_any (is_loose columns) columns) as (λ t. cond t (count_by waits_above columns + knots steps (without_last_where (is_loose columns) columns))
    (cond (list_any (λ column. has_last (last_of column)) columns) (1 + knots steps (without_last_where (is_in_knot columns) columns)) 0) ≤ cards_in columns) [
      | true ↦ omega (arith, shed_few (is_loose columns) columns (above_loose columns), knots_few steps (without_last_where (is_loose columns) columns))
      | false ↦
          elim (list_any (λ column. has_last (last_of column)) columns) as (λ t. list_any (λ column. has_last (last_of column)) columns ≡ t
          → cond t (1 + knots steps (without_last_where (is_in_knot columns) columns)) 0 ≤ cards_in columns) [
            | true ↦ λ has. omega (arith, shed_knot columns has, knots_few steps (without_last_where (is_in_knot columns) columns))
            | false ↦ λ _. omega arith
          ] refl
    ]

-- the count is that of so many steps as there are cards
pub count_is : (columns : List (List ℕ)) → knot_count columns ≡ knots (cards_in columns) columns
unfolding knot_count
count_is columns = refl
