-- Rings of last cards: what is left of all last cards when those are left out that the others can do without.
use Rattle.std.proofs.Common.{◌≡◌, ℕ, Bool, true, false, cond, Option, Some, None, List, [], ◌∷◌, get_or, refl, sym, ◌∙◌, ap, ⊎_elim, true≢false}
use Rattle.std.specs.Prelude.{◌==◌, ◌&&◌, ◌||◌, not}
use Rattle.std.specs.List.{list_any}
use Rattle.std.proofs.lemmas.Bool.{and_parts, and_from, not-true, cases_Bool}
use Rattle.std.proofs.lemmas.List.Folds.{list_any_at}
use Rattle.fc_cards.specs.Card.{all_cards}
use Rattle.fc_position.specs.Board.{last_of}
use Rattle.fc_bound.specs.Knots.{has_last, ends_with, waits_in, first_knotted, second_knotted, ends_among, is_among, waits_among, is_astray, is_ring, all_but, leave_out, leave_out_each, ring, is_in_knot}
use Rattle.fc_bound.proofs.ClearingLemmas.{last_there}
use Rattle.fc_bound.proofs.HeldLemmas.{Found, found}
use Rattle.fc_bound.proofs.LeftLemmas.{at_ends, last_is}

-- a last card that is of a set is one
pub among_is : (set : ℕ → Bool) (o : Option ℕ) → is_among set o ≡ true → (u : ℕ) × (o ≡ Some u)
among_is set None is = absurd (true≢false (sym is))
among_is set (Some u) is = (u, refl)

-- what is true of a set, and of each ring, is true of what is left when cards are left out
left_keeps : (P : (ℕ → Bool) → Type 0) (columns : List (List ℕ)) → ((set : ℕ → Bool) → is_ring columns set ≡ true → P set)
    → (cards : List ℕ) (set : ℕ → Bool) → P set → P (leave_out_each columns cards set)
left_keeps P columns rings [] set here = here
left_keeps P columns rings (u ∷ cards) set here =
    left_keeps P columns rings cards (leave_out columns u set)
    (elim (is_ring columns (all_but u set)) as (λ t. is_ring columns (all_but u set) ≡ t → P (cond t (all_but u set) set)) [
      | true ↦ λ is. rings (all_but u set) is
      | false ↦ λ _. here
    ] refl)

-- what is left was there before
left_before : (columns : List (List ℕ)) (cards : List ℕ) (set : ℕ → Bool) (u : ℕ) → leave_out_each columns cards set u ≡ true
    → set u ≡ true
left_before columns [] set u is = is
left_before columns (c ∷ cards) set u is =
    elim (is_ring columns (all_but c set)) as (λ t. cond t (all_but c set) set u ≡ true → set u ≡ true) [
      | true ↦ λ both. (and_parts (set u) (not (u == c)) both).0
      | false ↦ λ before. before
    ] (left_before columns cards (leave_out columns c set) u is)

-- the cards of the ring are last cards
pub ring_ends : (columns : List (List ℕ)) (u : ℕ) → ring columns u ≡ true → ends_among columns u ≡ true
unfolding ring
ring_ends columns u is = left_before columns all_cards (ends_among columns) u is

-- the ring is one, where all last cards are
pub ring_is : (columns : List (List ℕ)) → is_ring columns (ends_among columns) ≡ true → is_ring columns (ring columns) ≡ true
unfolding ring
ring_is columns all =
    left_keeps (λ set. is_ring columns set ≡ true) columns (λ set is. is) all_cards (ends_among columns) all

-- some column ends with a card that is the last one of a column
pub all_some : (columns : List (List ℕ)) → list_any (λ column. has_last (last_of column)) columns ≡ true
    → list_any (λ column. is_among (ends_among columns) (last_of column)) columns ≡ true
all_some columns some_last =
    let f = found (λ column. has_last (last_of column)) columns some_last in
    let x : List ℕ = get_or columns f.place [] in
    let (u, last) = last_is (last_of x) f.passes in
    list_any_at (λ column. is_among (ends_among columns) (last_of column)) columns f.place [] f.inside
    (ap (is_among (ends_among columns)) last ∙ at_ends columns f.place u last)

-- the ring has a card, where there is a last card
pub ring_some : (columns : List (List ℕ)) → list_any (λ column. has_last (last_of column)) columns ≡ true
    → list_any (λ column. is_among (ring columns) (last_of column)) columns ≡ true
unfolding ring
ring_some columns some_last =
    left_keeps (λ set. list_any (λ column. is_among set (last_of column)) columns ≡ true) columns
    (λ set is. (and_parts (list_any (λ column. is_among set (last_of column)) columns) (not (list_any (is_astray columns set) columns)) is).0)
    all_cards (ends_among columns) (all_some columns some_last)

-- in a ring each last card waits for a card of a column of the ring
pub ring_waits : (columns : List (List ℕ)) (set : ℕ → Bool) (i : ℕ) → is_ring columns set ≡ true
    → is_among set (last_of (get_or columns i [])) ≡ true
    → Found (λ other. is_among set (last_of other) && waits_in (get_or columns i []) other) columns
ring_waits columns set i is among =
    let x : List ℕ = get_or columns i [] in
    let none = (and_parts (list_any (λ column. is_among set (last_of column)) columns) (not (list_any (is_astray columns set) columns)) is).1 in
    let (u, last) = among_is set (last_of x) among in
    found (λ other. is_among set (last_of other) && waits_in x other) columns (⊎_elim (λ waits. waits)
    (λ alone. absurd (true≢false (sym (list_any_at (is_astray columns set) columns i [] (last_there columns i u last)
    (and_from (is_among set (last_of x)) (not (waits_among columns set x)) among (ap not alone)))
    ∙ not-true (list_any (is_astray columns set) columns) none)))
    (cases_Bool (waits_among columns set x)))

-- which columns are of the knot
pub knot_ring : (columns : List (List ℕ)) (x : List ℕ) → (first_knotted columns == 52) ≡ true
    → is_in_knot columns x ≡ is_among (ring columns) (last_of x)
knot_ring columns x none =
    ap (λ t. cond t (is_among (ring columns) (last_of x))
    (ends_with (first_knotted columns) (last_of x) || ends_with (second_knotted columns) (last_of x))) none

pub knot_two : (columns : List (List ℕ)) (x : List ℕ) → (first_knotted columns == 52) ≡ false
    → is_in_knot columns x ≡ (ends_with (first_knotted columns) (last_of x) || ends_with (second_knotted columns) (last_of x))
knot_two columns x some_two =
    ap (λ t. cond t (is_among (ring columns) (last_of x))
    (ends_with (first_knotted columns) (last_of x) || ends_with (second_knotted columns) (last_of x))) some_two
