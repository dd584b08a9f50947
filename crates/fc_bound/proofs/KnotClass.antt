-- Columns in another order have the same knots.
use Rattle.std.proofs.Common.{◌≡◌, ℕ, ◌+◌, zero, suc, Bool, cond, List, [], ◌∷◌, refl, sym, ◌∙◌, ap, subst, arith, length}
use Rattle.std.specs.Prelude.{◌==◌, ◌&&◌, ◌||◌, not, count_by, nat_lt, slice_index}
use Rattle.std.specs.List.{list_any}
use Rattle.std.specs.List.Sorted.{IsPermutation}
use Rattle.std.proofs.lemmas.List.Sorted.{IsPermutation-map, list_any-IsPermutation, sum_by-IsPermutation}
use Rattle.fc_cards.specs.Card.{rank, suit, all_cards}
use Rattle.fc_position.specs.Board.{last_of, front_of}
use Rattle.fc_bound.specs.Bound.{is_away}
use Rattle.fc_bound.specs.Clearing.{cards_in}
use Rattle.fc_bound.specs.Knots.{has_last, ends_with, waits_in, waits_above, is_loose, are_knotted, first_with, least_last, first_knotted, second_knotted, ends_among, is_among, is_astray, is_ring, all_but, leave_out, leave_out_each, ring, is_in_knot, without_last_where, knots, knot_count, knot_bound}
use Rattle.fc_bound.specs.Laws.{ClassMatesHaveOneKnotBound}
use Rattle.fc_bound.proofs.ClearingOrders.{waits-moved}

-- some column passes, where the tests are the same
any-moved : (s t : List ℕ → Bool) (xs ys : List (List ℕ)) → s ≡ t → IsPermutation xs ys → list_any s xs ≡ list_any t ys
any-moved s t xs ys same p = list_any-IsPermutation s xs ys p ∙ ap (λ test. list_any test ys) same

loose-moved : (xs ys : List (List ℕ)) → IsPermutation xs ys → is_loose xs ≡ is_loose ys
loose-moved xs ys p =
    λ i x. ap (λ t. has_last (last_of x) && (not t || waits_above x)) (waits-moved xs ys (last_of x) p) i

least-moved : (s t : List ℕ → Bool) (xs ys : List (List ℕ)) → s ≡ t → IsPermutation xs ys → least_last s xs ≡ least_last t ys
least-moved s t xs ys same p =
    λ i. first_with (λ u. any-moved (λ column. s column && ends_with u (last_of column))
    (λ column. t column && ends_with u (last_of column)) xs ys
    (λ j column. same j column && ends_with u (last_of column)) p i) all_cards

first-moved : (xs ys : List (List ℕ)) → IsPermutation xs ys → first_knotted xs ≡ first_knotted ys
first-moved xs ys p =
    least-moved (λ column. list_any (are_knotted column) xs) (λ column. list_any (are_knotted column) ys) xs ys
    (λ i column. list_any-IsPermutation (are_knotted column) xs ys p i) p

-- the columns that are knotted with one that ends with this card
abbrev knotted_with : ℕ → List (List ℕ) → List ℕ → Bool
knotted_with u columns column = list_any (λ other. ends_with u (last_of other) && are_knotted other column) columns

second-moved : (xs ys : List (List ℕ)) → IsPermutation xs ys → second_knotted xs ≡ second_knotted ys
second-moved xs ys p =
    least-moved (knotted_with (first_knotted xs) xs) (knotted_with (first_knotted ys) ys) xs ys
    (λ i column. any-moved (λ other. ends_with (first_knotted xs) (last_of other) && are_knotted other column)
    (λ other. ends_with (first_knotted ys) (last_of other) && are_knotted other column) xs ys
    (λ j other. ends_with (first-moved xs ys p j) (last_of other) && are_knotted other column) p i) p

-- a set is a ring of the one where it is a ring of the other, so the same cards are left out
ring-is-moved : (set : ℕ → Bool) (xs ys : List (List ℕ)) → IsPermutation xs ys → is_ring xs set ≡ is_ring ys set
ring-is-moved set xs ys p =
    λ i. list_any-IsPermutation (λ column. is_among set (last_of column)) xs ys p i
    && not (any-moved (is_astray xs set) (is_astray ys set) xs ys
    (λ j column. is_among set (last_of column)
    && not (list_any-IsPermutation (λ other. is_among set (last_of other) && waits_in column other) xs ys p j)) p i)

left-moved : (cards : List ℕ) (set : ℕ → Bool) (xs ys : List (List ℕ)) → IsPermutation xs ys
    → leave_out_each xs cards set ≡ leave_out_each ys cards set
left-moved [] set xs ys p = refl
left-moved (u ∷ cards) set xs ys p =
    left-moved cards (leave_out xs u set) xs ys p
    ∙ ap (λ t. leave_out_each ys cards (cond t (all_but u set) set)) (ring-is-moved (all_but u set) xs ys p)

ring-moved : (xs ys : List (List ℕ)) → IsPermutation xs ys → ring xs ≡ ring ys
unfolding ring
ring-moved xs ys p =
    left-moved all_cards (ends_among xs) xs ys p
    ∙ ap (leave_out_each ys all_cards) (λ i u. list_any-IsPermutation (λ column. ends_with u (last_of column)) xs ys p i)

in_knot-moved : (xs ys : List (List ℕ)) → IsPermutation xs ys → is_in_knot xs ≡ is_in_knot ys
in_knot-moved xs ys p =
    λ i column. cond (first-moved xs ys p i == 52) (is_among (ring-moved xs ys p i) (last_of column))
    (ends_with (first-moved xs ys p i) (last_of column) || ends_with (second-moved xs ys p i) (last_of column))

shed-moved : (s t : List ℕ → Bool) (xs ys : List (List ℕ)) → s ≡ t → IsPermutation xs ys → IsPermutation (without_last_where s xs) (without_last_where t ys)
shed-moved s t xs ys same p =
    subst (λ test. IsPermutation (without_last_where s xs) (without_last_where test ys)) same
    (IsPermutation-map (λ column. cond (s column) (front_of column) column) xs ys p)

knots-moved : (steps : ℕ) (xs ys : List (List ℕ)) → IsPermutation xs ys → knots steps xs ≡ knots steps ys
unfolding knots
knots-moved zero xs ys p = refl
knots-moved (suc steps) xs ys p =
    let loose = any-moved (is_loose xs) (is_loose ys) xs ys (loose-moved xs ys p) p in
    let above : count_by waits_above xs ≡ count_by waits_above ys =
    sym (sum_by-IsPermutation (λ column. cond (waits_above column) 1 0) xs ys p) in
    let some_last = list_any-IsPermutation (λ column. has_last (last_of column)) xs ys p in
    let one = knots-moved steps (without_last_where (is_loose xs) xs) (without_last_where (is_loose ys) ys)
    (shed-moved (is_loose xs) (is_loose ys) xs ys (loose-moved xs ys p) p) in
    let two = knots-moved steps (without_last_where (is_in_knot xs) xs) (without_last_where (is_in_knot ys) ys)
    (shed-moved (is_in_knot xs) (is_in_knot ys) xs ys (in_knot-moved xs ys p) p) in
    λ i. cond (loose i) (above i + one i) (cond (some_last i) (1 + two i) 0)

-- columns in another order have as many knots
pub knot_count_moved : (xs ys : List (List ℕ)) → IsPermutation xs ys → knot_count xs ≡ knot_count ys
unfolding knot_count
knot_count_moved xs ys p =
    let many : cards_in xs ≡ cards_in ys = sym (sum_by-IsPermutation (λ (cards : List ℕ). length cards) xs ys p) in
    ap (λ n. knots n xs) many ∙ knots-moved (cards_in ys) xs ys p

-- boards of one class have one knot bound
pub class_knots : ClassMatesHaveOneKnotBound
unfolding knot_bound
class_knots b c s =
    let away : count_by (is_away b) all_cards ≡ count_by (is_away c) all_cards =
    ap (λ h. count_by (λ x. nat_lt (slice_index h (suit x)) (rank x)) all_cards) s.homes in
    omega (arith, away, knot_count_moved b.columns c.columns s.columns)
