-- The knot bound of a position is nowhere greater than its clearing bound.
use Rattle.std.proofs.Common.{◌≡◌, ℕ, ◌+◌, ◌-◌, ◌<◌, ◌≤◌, zero, suc, Bool, true, false, cond, Option, Some, None, List, [], ◌∷◌, get_or, length, refl, sym, ◌∙◌, ap, subst, ⊎_elim, true≢false, arith}
use Rattle.std.specs.Prelude.{◌==◌, ◌&&◌, ◌||◌, not, count_by}
use Rattle.std.specs.List.{list_any}
use Rattle.std.proofs.lemmas.Bool.{and_parts, and_from, and_cases, or_cases, or_parts, or_left, or_right, not-false, cases_lt, cases_Bool, cond_both, eq-eqb, eqb-true}
use Rattle.std.proofs.lemmas.List.Elements.{Contains-get_or}
use Rattle.std.proofs.lemmas.List.Folds.{list_any_at}
use Rattle.std.proofs.lemmas.List.Sums.{get_or-le-sum_by}
use Rattle.std.proofs.lemmas.Option.{slice_get-get_or, slice_get_within, get_or_from_slice_get}
use Rattle.fc_position.specs.Board.{Board, last_of, count_in_column}
use Rattle.fc_position.specs.Position.{IsPosition}
use Rattle.fc_cards.specs.Card.{all_cards}
use Rattle.fc_cards.proofs.CardLemmas.{every_card}
use Rattle.fc_bound.specs.Bound.{is_lower}
use Rattle.fc_bound.specs.Clearing.{waits, cards_in, clearing_cost, clearing_bound}
use Rattle.fc_bound.specs.Knots.{has_last, ends_with, waits_in, waits_above, is_loose, are_knotted, first_with, first_knotted, second_knotted, ends_among, is_among, waits_among, is_astray, is_ring, ring, is_in_knot, without_last_where, knots, knot_count, knot_bound}
use Rattle.fc_bound.specs.Laws.{KnotBoundIsNoGreater}
use Rattle.fc_bound.proofs.AboveLemmas.{not_true, or-false, contains-stands, stands-counted}
use Rattle.fc_bound.proofs.HeldLemmas.{Found, found}
use Rattle.fc_bound.proofs.ClearingLemmas.{last_there}
use Rattle.fc_bound.proofs.ClearingTied.{TiedBy}
use Rattle.fc_bound.proofs.LeftLemmas.{at_ends, last_is}
use Rattle.fc_bound.proofs.RingLemmas.{among_is, all_some, ring_is, ring_some, ring_waits, knot_ring, knot_two}
use Rattle.fc_bound.proofs.KnotShed.{AreCards, shed-cards, is_shed, shed-tied, shed-loose}

-- the cards of a position are cards
pub position_cards : (b : Board) → IsPosition b → AreCards b.columns
position_cards b p = λ k d below j e inside. card_below k d below j e inside
  where
    card_below : (k : ℕ) (d : List ℕ) → k < length b.columns → (j e : ℕ) → j < length (get_or b.columns k d)
        → get_or (get_or b.columns k d) j e < 52
    card_below k d below j e inside =
        let cards : List ℕ = get_or b.columns k d in
        let c : ℕ = get_or cards j e in
        let stands = contains-stands cards c (Contains-get_or cards j e inside) in
        ⊎_elim (λ lt. lt)
        (λ le. absurd (omega (
          arith,
          stands-counted cards c stands,
          get_or-le-sum_by (count_in_column c) b.columns k d below,
          p.no_other c le,
        )))
        (cases_lt c 52)

-- the first card that passes passes, if one does
first-passes : (test : ℕ → Bool) (cards : List ℕ) → (first_with test cards == 52) ≡ false → test (first_with test cards) ≡ true
first-passes test [] other = absurd (true≢false other)
first-passes test (c ∷ cards) other =
    elim (test c) as (λ t. test c ≡ t → (cond t c (first_with test cards) == 52) ≡ false → test (cond t c (first_with test cards)) ≡ true) [
      | true ↦ λ passes _. passes
      | false ↦ λ _ later. first-passes test cards later
    ] refl other

first-found : (test : ℕ → Bool) (cards : List ℕ) → list_any test cards ≡ true → test (first_with test cards) ≡ true
first-found test [] any = absurd (true≢false (sym any))
first-found test (c ∷ cards) any =
    elim (test c) as (λ t. test c ≡ t → (t || list_any test cards) ≡ true → test (cond t c (first_with test cards)) ≡ true) [
      | true ↦ λ passes _. passes
      | false ↦ λ _ later. first-found test cards later
    ] refl any

first-card : (test : ℕ → Bool) (c : ℕ) → c < 52 → test c ≡ true → test (first_with test all_cards) ≡ true
first-card test c below passes =
    let (k, inside, e) = every_card c below in
    first-found test all_cards (list_any_at test all_cards k c inside (ap test e ∙ passes))

-- what a last card is
ends-is : (u : ℕ) (o : Option ℕ) → ends_with u o ≡ true → o ≡ Some u
ends-is u None ends = absurd (true≢false (sym ends))
ends-is u (Some v) ends = ap Some (eqb-true v u ends)

ends-same : (u : ℕ) (o p : Option ℕ) → ends_with u o ≡ true → ends_with u p ≡ true → o ≡ p
ends-same u o p one two = ends-is u o one ∙ sym (ends-is u p two)

ends-itself : (u : ℕ) (o : Option ℕ) → o ≡ Some u → ends_with u o ≡ true
ends-itself u o last = ap (ends_with u) last ∙ eq-eqb u u refl

ends-has : (u : ℕ) (o : Option ℕ) → ends_with u o ≡ true → has_last o ≡ true
ends-has u o ends = ap has_last (ends-is u o ends)

-- a column in which a card waits has a last card, and this is a card
pub in-has : (cards : List ℕ) (o : Option ℕ) → waits (cards ∷ []) o ≡ true → has_last (last_of cards) ≡ true
in-has [] None waiting = waiting
in-has [] (Some u) waiting = waiting
in-has (c ∷ cards) o waiting =
    ap has_last (slice_get-get_or (c ∷ cards) (length (c ∷ cards) - 1) 0 (omega arith))

last_card : (columns : List (List ℕ)) (i u : ℕ) → AreCards columns → last_of (get_or columns i []) ≡ Some u → u < 52
last_card columns i u cards last =
    let column : List ℕ = get_or columns i [] in
    let within = slice_get_within column (length column - 1) u last in
    let is = get_or_from_slice_get column (length column - 1) u u last in
    subst (λ c. c < 52) is (cards i [] (last_there columns i u last) (length column - 1) u within)

-- a card that waits does so for one of a column
waits-where : (columns : List (List ℕ)) (o : Option ℕ) → waits columns o ≡ true
    → (j : ℕ) × (waits (get_or columns j [] ∷ []) o ≡ true)
waits-where columns None waiting = absurd (true≢false (sym waiting))
waits-where columns (Some u) waiting =
    let f = found (list_any (is_lower u)) columns waiting in
    (f.place, or-false (list_any (is_lower u) (get_or columns f.place [])) ∙ f.passes)

-- where no column is loose, a column with a last card waits
pub tight-waits : (columns : List (List ℕ)) (i : ℕ) → list_any (is_loose columns) columns ≡ false
    → has_last (last_of (get_or columns i [])) ≡ true → waits columns (last_of (get_or columns i [])) ≡ true
tight-waits columns i tight some_last =
    let x : List ℕ = get_or columns i [] in
    let (u, last) = last_is (last_of x) some_last in
    let here : is_loose columns x ≡ false = not_true (is_loose columns x) (λ loose.
    true≢false (sym (list_any_at (is_loose columns) columns i [] (last_there columns i u last) loose) ∙ tight)) in
    ⊎_elim (λ none. absurd (true≢false (sym some_last ∙ none)))
    (λ both. not-false (waits columns (last_of x)) (or_parts (not (waits columns (last_of x))) (waits_above x) both).0)
    (and_cases (has_last (last_of x)) (not (waits columns (last_of x)) || waits_above x) here)

-- where no column is loose, the last cards of all columns are a ring
all-ring : (columns : List (List ℕ)) → list_any (is_loose columns) columns ≡ false
    → list_any (λ column. has_last (last_of column)) columns ≡ true → is_ring columns (ends_among columns) ≡ true
all-ring columns tight some_last =
    and_from (list_any (λ column. is_among lasts (last_of column)) columns) (not (list_any (is_astray columns lasts) columns))
    (all_some columns some_last)
    (ap not (not_true (list_any (is_astray columns lasts) columns) (λ any.
    let f = found (is_astray columns lasts) columns any in
    let x : List ℕ = get_or columns f.place [] in
    let parts = and_parts (is_among lasts (last_of x)) (not (waits_among columns lasts x)) f.passes in
    let (u, last) = among_is lasts (last_of x) parts.0 in
    let (j, waiting) = waits-where columns (last_of x) (tight-waits columns f.place tight (ap has_last last)) in
    let y : List ℕ = get_or columns j [] in
    let (v, other) = last_is (last_of y) (in-has y (last_of x) waiting) in
    let there : waits_among columns lasts x ≡ true =
    list_any_at (λ other. is_among lasts (last_of other) && waits_in x other) columns j [] (last_there columns j v other)
    (and_from (is_among lasts (last_of y)) (waits_in x y) (ap (is_among lasts) other ∙ at_ends columns j v other) waiting) in
    true≢false (sym parts.1 ∙ ap not there))))
  where
    lasts : ℕ → Bool
    lasts = ends_among columns

-- where no two columns are knotted, those of the ring are tied
ring-tied : (columns : List (List ℕ)) → list_any (is_loose columns) columns ≡ false
    → list_any (λ column. has_last (last_of column)) columns ≡ true → (first_knotted columns == 52) ≡ true
    → TiedBy columns (is_shed columns (is_in_knot columns))
ring-tied columns tight some_last none = record {
  one = f.place;
  one_tied = member f.place f.passes;
  wait = λ i here.
      let x : List ℕ = get_or columns i [] in
      let among = sym (knot_ring columns x none) ∙ (and_parts (is_in_knot columns x) (has_last (last_of x)) here).0 in
      let w = ring_waits columns (ring columns) i (ring_is columns (all-ring columns tight some_last)) among in
      let both = and_parts (is_among (ring columns) (last_of (get_or columns w.place []))) (waits_in x (get_or columns w.place [])) w.passes in
      (w.place, member w.place both.0, both.1);
}
  where
    f : Found (λ column. is_among (ring columns) (last_of column)) columns
    f = found (λ column. is_among (ring columns) (last_of column)) columns (ring_some columns some_last)

    member : (i : ℕ) → is_among (ring columns) (last_of (get_or columns i [])) ≡ true → is_shed columns (is_in_knot columns) i ≡ true
    member i among =
        let x : List ℕ = get_or columns i [] in
        let (u, last) = among_is (ring columns) (last_of x) among in
        and_from (is_in_knot columns x) (has_last (last_of x)) (knot_ring columns x none ∙ among) (ap has_last last)

-- two columns that are knotted, by their last cards
record Knotted (columns : List (List ℕ)) : Type 0 where
  one : ℕ
  two : ℕ
  one_ends : ends_with (first_knotted columns) (last_of (get_or columns one [])) ≡ true
  two_ends : ends_with (second_knotted columns) (last_of (get_or columns two [])) ≡ true
  one_waits : waits_in (get_or columns one []) (get_or columns two []) ≡ true
  two_waits : waits_in (get_or columns two []) (get_or columns one []) ≡ true

-- a column whose last card waits in one that the card fk ends, and whose own last card fk waits for
abbrev knotted_with : ℕ → List (List ℕ) → List ℕ → Bool
knotted_with u columns column = list_any (λ other. ends_with u (last_of other) && are_knotted other column) columns

abbrev is_second : List (List ℕ) → ℕ → Bool
is_second columns v = list_any (λ column. knotted_with (first_knotted columns) columns column && ends_with v (last_of column)) columns

-- where some two columns are knotted, a second one is found
second-found : (columns : List (List ℕ)) → AreCards columns → (first_knotted columns == 52) ≡ false
    → is_second columns (second_knotted columns) ≡ true
second-found columns cards some_first =
    let first : ℕ = first_knotted columns in
    let passes = first-passes (λ u. list_any (λ column. list_any (are_knotted column) columns && ends_with u (last_of column)) columns) all_cards some_first in
    let a = found (λ column. list_any (are_knotted column) columns && ends_with first (last_of column)) columns passes in
    let x : List ℕ = get_or columns a.place [] in
    let (knotted, ends) = and_parts (list_any (are_knotted x) columns) (ends_with first (last_of x)) a.passes in
    let b = found (are_knotted x) columns knotted in
    let y : List ℕ = get_or columns b.place [] in
    let (there, back) = and_parts (waits_in x y) (waits_in y x) b.passes in
    let (v, last) = last_is (last_of y) (in-has y (last_of x) there) in
    let itself : ends_with v (last_of y) ≡ true = ends-itself v (last_of y) last in
    let with_first : knotted_with first columns y ≡ true =
    list_any_at (λ other. ends_with first (last_of other) && are_knotted other y) columns a.place [] a.inside
    (and_from (ends_with first (last_of x)) (are_knotted x y) ends b.passes) in
    first-card (is_second columns) v (last_card columns b.place v cards last)
    (list_any_at (λ column. knotted_with first columns column && ends_with v (last_of column)) columns b.place [] b.inside
    (and_from (knotted_with first columns y) (ends_with v (last_of y)) with_first itself))

two-knotted : (columns : List (List ℕ)) → is_second columns (second_knotted columns) ≡ true → Knotted columns
two-knotted columns passes =
    let first : ℕ = first_knotted columns in
    let second : ℕ = second_knotted columns in
    let d = found (λ column. knotted_with first columns column && ends_with second (last_of column)) columns passes in
    let y : List ℕ = get_or columns d.place [] in
    let (with_first, ends) = and_parts (knotted_with first columns y) (ends_with second (last_of y)) d.passes in
    let o = found (λ other. ends_with first (last_of other) && are_knotted other y) columns with_first in
    let x : List ℕ = get_or columns o.place [] in
    let (starts, both) = and_parts (ends_with first (last_of x)) (are_knotted x y) o.passes in
    let waiting = and_parts (waits_in x y) (waits_in y x) both in
    record { one = o.place; two = d.place; one_ends = starts; two_ends = ends; one_waits = waiting.0; two_waits = waiting.1 }

-- the columns of a knot of two are tied
two-tied : (columns : List (List ℕ)) → (first_knotted columns == 52) ≡ false → Knotted columns
    → TiedBy columns (is_shed columns (is_in_knot columns))
two-tied columns other k = record {
  one = k.one;
  one_tied = one_in;
  wait = λ i here.
      let o : Option ℕ = last_of (get_or columns i []) in
      let parts = and_parts (is_in_knot columns (get_or columns i [])) (has_last o) here in
      ⊎_elim
      (λ is. (k.two, two_in, ap (waits (get_or columns k.two [] ∷ [])) (ends-same first o (last_of (get_or columns k.one [])) is k.one_ends) ∙ k.one_waits))
      (λ is. (k.one, one_in, ap (waits (get_or columns k.one [] ∷ [])) (ends-same second o (last_of (get_or columns k.two [])) is k.two_ends) ∙ k.two_waits))
      (or_cases (ends_with first o) (ends_with second o) (sym (knot_two columns (get_or columns i []) other) ∙ parts.0));
}
  where
    first : ℕ
    first = first_knotted columns

    second : ℕ
    second = second_knotted columns

    member : (i : ℕ) → (ends_with first (last_of (get_or columns i [])) || ends_with second (last_of (get_or columns i []))) ≡ true
        → has_last (last_of (get_or columns i [])) ≡ true → is_shed columns (is_in_knot columns) i ≡ true
    member i ends has =
        and_from (is_in_knot columns (get_or columns i [])) (has_last (last_of (get_or columns i [])))
        (knot_two columns (get_or columns i []) other ∙ ends) has

    one_in : is_shed columns (is_in_knot columns) k.one ≡ true
    one_in =
        let o : Option ℕ = last_of (get_or columns k.one []) in
        member k.one (or_left (ends_with first o) (ends_with second o) k.one_ends) (ends-has first o k.one_ends)

    two_in : is_shed columns (is_in_knot columns) k.two ≡ true
    two_in =
        let o : Option ℕ = last_of (get_or columns k.two []) in
        member k.two (or_right (ends_with first o) (ends_with second o) k.two_ends) (ends-has second o k.two_ends)

pub knot-tied : (columns : List (List ℕ)) → AreCards columns → list_any (is_loose columns) columns ≡ false
    → list_any (λ column. has_last (last_of column)) columns ≡ true → TiedBy columns (is_shed columns (is_in_knot columns))
knot-tied columns cards tight some_last =
    ⊎_elim (λ none. ring-tied columns tight some_last none)
    (λ other. two-tied columns other (two-knotted columns (second-found columns cards other)))
    (cases_Bool (first_knotted columns == 52))

-- no more knots are met than clearing costs
pub knot_cost_no_greater : (steps : ℕ) (columns : List (List ℕ)) → AreCards columns → knots steps columns ≤ clearing_cost columns
unfolding knots
knot_cost_no_greater zero columns cards = omega arith
knot_cost_no_greater (suc steps) columns cards =
    let loose : List (List ℕ) = without_last_where (is_loose columns) columns in
    let tight : List (List ℕ) = without_last_where (is_in_knot columns) columns in
    let knot : ℕ = cond (list_any (λ column. has_last (last_of column)) columns) (1 + knots steps tight) 0 in
    cond_both (list_any (is_loose columns) columns) (count_by waits_above columns + knots steps loose) knot (λ n. n ≤ clearing_cost columns)
    (λ some_loose. omega (
      arith,
      shed-loose columns [] columns (λ o free. free),
      knot_cost_no_greater steps loose (shed-cards (is_loose columns) columns cards),
    ))
    (λ none_loose. cond_both (list_any (λ column. has_last (last_of column)) columns) (1 + knots steps tight) 0 (λ n. n ≤ clearing_cost columns)
    (λ some_last. omega (
      arith,
      shed-tied columns (is_in_knot columns) (knot-tied columns cards none_loose some_last),
      knot_cost_no_greater steps tight (shed-cards (is_in_knot columns) columns cards),
    ))
    (λ none_last. omega arith))

-- the knot bound of a position is nowhere greater than its clearing bound
pub knots_no_greater : KnotBoundIsNoGreater
unfolding knot_bound knot_count clearing_bound
knots_no_greater b p = omega (arith, knot_cost_no_greater (cards_in b.columns) b.columns (position_cards b p))
