-- What a move to a column or a cell changes in the bound: whether the card that moves is held back.
use Rattle.std.proofs.Common.{◌≡◌, ◌≢◌, ℕ, ◌<◌, zero, suc, Bool, false, cond, List, [], ◌∷◌, ◌++◌, Some, None, length, get_or, refl, sym, ◌∙◌, ap, arith}
use Rattle.std.specs.Prelude.{◌==◌, ◌||◌, ◌↔◌, IsTrue, true}
use Rattle.std.specs.List.{list_any}
use Rattle.std.proofs.lemmas.Bool.Decides.{nat_tests}
use Rattle.std.proofs.lemmas.List.Sums.{get_or-le-sum_by}
use Rattle.fc_cards.specs.declared.places.Place.{Place}
use Rattle.fc_cards.specs.declared.places.Place.TheVariants.{Column, Cell, Home}
use Rattle.fc_position.specs.Board.{Board, column, cell, playable, last_of, front_of, count_in_column, count_in_cell}
use Rattle.fc_position.specs.Position.{IsPosition}
use Rattle.fc_position.proofs.BoardLemmas.{front_last, last_counted, places_most, column_there, cell_there}
use Rattle.fc_position.proofs.PlaceLemmas.{two_of_sum}
use Rattle.fc_bound.specs.Bound.{is_held_back, is_above_lower, is_lower, PlayableIsHeldBack}
use Rattle.fc_bound.proofs.AboveLemmas.{above-one, above-top, stands-counted, not_true, or-false}

-- a list that passes nowhere passes not
any_none : (test : List ℕ → Bool) (columns : List (List ℕ)) → ((k : ℕ) → k < length columns → test (get_or columns k []) ≡ false)
    → list_any test columns ≡ false
any_none test [] none = refl
any_none test (x ∷ xs) none =
    ap (λ t. t || list_any test xs) (none zero (omega arith)) ∙ any_none test xs (λ k within. none (suc k) (omega (arith, within)))

-- a list that passes nowhere but at one place passes where that place does
any_only : (test : List ℕ → Bool) (columns : List (List ℕ)) (i : ℕ) → i < length columns
    → ((k : ℕ) → k ≢ i → k < length columns → test (get_or columns k []) ≡ false)
    → list_any test columns ≡ test (get_or columns i [])
any_only test [] i inside others = absurd (omega (arith, inside))
any_only test (x ∷ xs) zero inside others =
    ap (λ t. test x || t) (any_none test xs (λ k within. others (suc k) (λ e. omega (arith, e)) (omega (arith, within))))
    ∙ or-false (test x)
any_only test (x ∷ xs) (suc i) inside others =
    ap (λ t. t || list_any test xs) (others zero (λ e. omega (arith, e)) (omega arith))
    ∙ any_only test xs i (omega (arith, inside)) (λ k other within. others (suc k) (λ e. other (omega (arith, e))) (omega (arith, within)))

-- a card is no lower than itself
pub lower-push : (u : ℕ) (cards : List ℕ) → list_any (is_lower u) (cards ++ u ∷ []) ≡ list_any (is_lower u) cards
lower-push u [] = grind (arith, nat_tests)
lower-push u (d ∷ cards) = ap (λ t. is_lower u d || t) (lower-push u cards)

-- the last card of a column is held back where it stands above a lower one there
pub held-last : (b : Board) (i u : ℕ) → IsPosition b → last_of (column b i) ≡ Some u
    → is_held_back b u ≡ list_any (is_lower u) (column b i)
held-last b i u p last =
    let inside = column_there b i u last in
    let whole = front_last (column b i) u last in
    any_only (is_above_lower u) b.columns i inside
    (λ k other within. not_true (is_above_lower u (column b k)) (λ above.
    let there = stands-counted (column b k) u (above-one u (column b k) above).stands in
    omega (
      arith,
      there,
      last_counted (column b i) u last,
      two_of_sum (λ cards. count_in_column u cards) b.columns k i [] refl other within inside,
      places_most b u p,
    )))
    ∙ ap (is_above_lower u) whole ∙ above-top u (front_of (column b i)) ∙ sym (lower-push u (front_of (column b i)))
    ∙ ap (list_any (is_lower u)) (sym whole)

-- a card in a cell is not held back
pub held-cell : (b : Board) (i u : ℕ) → IsPosition b → cell b i ≡ Some u → is_held_back b u ≡ false
held-cell b i u p held =
    let itself : ◌≡◌ {A = ℕ} (cond (u == u) 1 0) 1 = grind (arith, nat_tests) in
    let one : count_in_cell u (cell b i) ≡ 1 = ap (count_in_cell u) held ∙ itself in
    any_none (is_above_lower u) b.columns
    (λ k within. not_true (is_above_lower u (column b k)) (λ above.
    let there = stands-counted (column b k) u (above-one u (column b k) above).stands in
    omega (
      arith,
      there,
      one,
      get_or-le-sum_by (λ cards. count_in_column u cards) b.columns k [] within,
      get_or-le-sum_by (λ c. count_in_cell u c) b.cells i None (cell_there b i u held),
      places_most b u p,
    )))

-- what is told of the playable card of a column that has one
pub told_column : (b : Board) (from : Place) (i u : ℕ) (r : Bool) → IsPosition b → from ≡ Column i → playable b from ≡ Some u
    → r ≡ list_any (is_lower u) (column b i) → IsTrue r ↔ PlayableIsHeldBack b from
told_column b from i u r p at there told =
    let here : playable b (Column i) ≡ Some u = ap (playable b) (sym at) ∙ there in
    let same : r ≡ is_held_back b u = told ∙ sym (held-last b i u p here) in (
      λ held. (u, there, sym same ∙ held),
      λ (v, also, held). let one : u ≡ v = let e = there in let f = also in cc in
          same ∙ ap (is_held_back b) one ∙ held,
    )

-- what is told of every other place
pub told_other : (b : Board) (from : Place) → IsPosition b → ((i u : ℕ) → from ≡ Column i → playable b from ≡ Some u → ⊥)
    → IsTrue false ↔ PlayableIsHeldBack b from
told_other b (Column i) p other = (λ no. absurd (cc no), λ (v, there, held). absurd (other i v refl there))
told_other b (Cell i) p other = (λ no. absurd (cc no), λ (v, there, held). sym (held-cell b i v p there) ∙ held)
told_other b Home p other = (λ no. absurd (cc no), λ (v, there, held). absurd (cc there))

-- tests that pass alike are the same
same_tests : (r t : Bool) → (IsTrue r → IsTrue t) → (IsTrue t → IsTrue r) → r ≡ t
same_tests true t to back = sym (to refl)
same_tests false true to back = back refl
same_tests false false to back = refl

-- what is told of a place is told of its card
pub told_card : (b : Board) (from : Place) (u : ℕ) (r : Bool) → playable b from ≡ Some u → (IsTrue r ↔ PlayableIsHeldBack b from)
    → r ≡ is_held_back b u
told_card b from u r there told =
    same_tests r (is_held_back b u)
    (λ held. let (v, also, back) = told.0 held in
    let one : v ≡ u = let e = there in let f = also in cc in
    sym (ap (is_held_back b) one) ∙ back)
    (λ held. told.1 (u, there, held))
