-- Cards that wait for a card beneath them: each is met as a knot, and all that is met besides are knots of several columns.
use Rattle.std.proofs.Common.{◌≡◌, ℕ, ◌+◌, ◌-◌, ◌<◌, ◌≤◌, zero, suc, Bool, true, false, cond, List, [], ◌∷◌, length, get_or, take, refl, sym, ◌∙◌, ap, ⊎_elim, true≢false, arith}
use Rattle.std.specs.Prelude.{count_by}
use Rattle.std.specs.List.{list_any}
use Rattle.std.proofs.lemmas.Bool.{cases_Bool}
use Rattle.std.proofs.lemmas.List.{take-take, take_all, length-take-le}
use Rattle.std.proofs.lemmas.List.Folds.{list_any_at}
use Rattle.std.proofs.lemmas.List.Sums.{sum_by-cons}
use Rattle.fc_position.specs.Board.{last_of, front_of}
use Rattle.fc_bound.specs.Clearing.{cards_in}
use Rattle.fc_bound.specs.Knots.{has_last, waits_above, is_loose, is_in_knot, without_last_where, knot_count}
use Rattle.fc_bound.specs.inner.Rows.{waiting_of, waiting_in}
use Rattle.fc_bound.proofs.AboveLemmas.{not_true}
use Rattle.fc_bound.proofs.HeldLemmas.{bit_most}
use Rattle.fc_bound.proofs.ClearingSearch.{loose_fewer, no_cards}
use Rattle.fc_bound.proofs.KnotAbove.{tight-none}
use Rattle.fc_bound.proofs.KnotFuel.{knots_count}
use Rattle.fc_bound.proofs.KnotSteps.{knots_loose, knots_knot, knots_none, shed_knot, above_loose, count_is}

-- no more wait than there are cards
waiting_few : (high : ℕ) (x : List ℕ) → waiting_of high x ≤ high
waiting_few zero x = omega arith
waiting_few (suc high) x = omega (arith, waiting_few high x, bit_most (waits_above (take (suc high) x)))

pub waiting_most : (columns : List (List ℕ)) → waiting_in columns ≤ cards_in columns
waiting_most [] = omega arith
waiting_most (x ∷ xs) = omega (
  arith,
  sum_by-cons (λ (column : List ℕ). waiting_of (length column) column) x xs,
  sum_by-cons (λ (column : List ℕ). length column) x xs,
  waiting_few (length x) x,
  waiting_most xs,
)

-- the lowest cards tell of themselves
waiting_low : (high n : ℕ) (x : List ℕ) → high ≤ n → waiting_of high (take n x) ≡ waiting_of high x
waiting_low zero n x low = refl
waiting_low (suc high) n x low =
    let here : ◌≡◌ {A = ℕ} (cond (waits_above (take (suc high) (take n x))) 1 0) (cond (waits_above (take (suc high) x)) 1 0) =
    ap (λ y. cond (waits_above y) 1 0) (take-take (suc high) n x low) in
    omega (arith, here, waiting_low high n x (omega (arith, low)))

-- a column that loses its last card
pub waiting_front : (x : List ℕ) → waiting_of (length x) x ≡ cond (waits_above x) 1 0 + waiting_of (length (front_of x)) (front_of x)
waiting_front [] = refl
waiting_front (d ∷ cards) =
    let x : List ℕ = d ∷ cards in
    let long : length x ≡ suc (length cards) = omega arith in
    let less : length (front_of x) ≡ length cards = omega (arith, length-take-le (length x - 1) x (omega arith)) in
    let last : ◌≡◌ {A = ℕ} (cond (waits_above (take (suc (length cards)) x)) 1 0) (cond (waits_above x) 1 0) =
    ap (λ y. cond (waits_above y) 1 0) (take_all (suc (length cards)) x (omega arith)) in
    let all = ap (λ n. waiting_of n x) long in
    let front = ap (λ n. waiting_of n (front_of x)) less in
    omega (arith, all, last, front, waiting_low (length cards) (length x - 1) x (omega arith))

waiting_one : (flag : Bool) (x : List ℕ) → (waits_above x ≡ true → flag ≡ true)
    → waiting_of (length x) x ≡ cond (waits_above x) 1 0 + waiting_of (length (cond flag (front_of x) x)) (cond flag (front_of x) x)
waiting_one true x goes = waiting_front x
waiting_one false x goes =
    let none : ◌≡◌ {A = ℕ} (cond (waits_above x) 1 0) 0 = ap (λ t. cond t 1 0) (not_true (waits_above x) (λ above. true≢false (sym (goes above)))) in
    omega (arith, none)

-- where each column whose last card waits for one beneath it loses it, so many fewer wait
waiting_shed : (test : List ℕ → Bool) (columns : List (List ℕ))
    → ((k : ℕ) → k < length columns → waits_above (get_or columns k []) ≡ true → test (get_or columns k []) ≡ true)
    → waiting_in columns ≡ count_by waits_above columns + waiting_in (without_last_where test columns)
waiting_shed test [] goes = refl
waiting_shed test (x ∷ xs) goes = omega (
  arith,
  sum_by-cons (λ (column : List ℕ). waiting_of (length column) column) x xs,
  sum_by-cons (λ (column : List ℕ). cond (waits_above column) 1 0) x xs,
  sum_by-cons (λ (column : List ℕ). waiting_of (length column) column) (cond (test x) (front_of x) x) (without_last_where test xs),
  waiting_one (test x) x (goes 0 (omega arith)),
  waiting_shed test xs (λ k inside. goes (suc k) (omega (arith, inside))),
)

pub waiting_loose : (columns : List (List ℕ))
    → waiting_in columns ≡ count_by waits_above columns + waiting_in (without_last_where (is_loose columns) columns)
waiting_loose columns = waiting_shed (is_loose columns) columns (λ k inside above. above_loose columns (get_or columns k []) above)

-- where no card is loose, as many wait afterwards
pub waiting_tight : (columns : List (List ℕ)) → list_any (is_loose columns) columns ≡ false
    → waiting_in columns ≡ waiting_in (without_last_where (is_in_knot columns) columns)
waiting_tight columns tight =
    omega (
      arith,
      tight-none columns columns tight,
      waiting_shed (is_in_knot columns) columns (λ k inside above. absurd (true≢false
          (sym (list_any_at (is_loose columns) columns k [] inside (above_loose columns (get_or columns k []) above)) ∙ tight))),
    )

-- the count of knots by one step
pub count_loose : (columns : List (List ℕ)) → list_any (is_loose columns) columns ≡ true
    → knot_count columns ≡ count_by waits_above columns + knot_count (without_last_where (is_loose columns) columns)
count_loose columns loose =
    let few = loose_fewer columns loose in
    let steps : ℕ = cards_in columns - 1 in
    let all = knots_count (suc steps) columns (omega (arith, few)) in
    let rest = knots_count steps (without_last_where (is_loose columns) columns) (omega (arith, few)) in
    omega (arith, all, knots_loose columns loose steps, rest)

pub count_knot : (columns : List (List ℕ)) → list_any (is_loose columns) columns ≡ false
    → list_any (λ column. has_last (last_of column)) columns ≡ true → knot_count columns ≡ 1 + knot_count (without_last_where (is_in_knot columns) columns)
count_knot columns tight some_last =
    let few = shed_knot columns some_last in
    let steps : ℕ = cards_in columns - 1 in
    let all = knots_count (suc steps) columns (omega (arith, few)) in
    let rest = knots_count steps (without_last_where (is_in_knot columns) columns) (omega (arith, few)) in
    omega (arith, all, knots_knot columns tight some_last steps, rest)

pub count_none : (columns : List (List ℕ)) → list_any (is_loose columns) columns ≡ false
    → list_any (λ column. has_last (last_of column)) columns ≡ false → (knot_count columns ≡ 0) × (waiting_in columns ≡ 0)
count_none columns tight none = (
  count_is columns ∙ knots_none columns tight none (cards_in columns),
  omega (arith, waiting_most columns, no_cards columns none),
)

-- each card that waits for one beneath it is met
waiting_met : (n : ℕ) (columns : List (List ℕ)) → cards_in columns ≤ n → waiting_in columns ≤ knot_count columns
waiting_met zero columns few = omega (arith, waiting_most columns, few)
waiting_met (suc n) columns few =
    ⊎_elim
    (λ loose. omega (
      arith,
      waiting_loose columns,
      count_loose columns loose,
      waiting_met n (without_last_where (is_loose columns) columns) (omega (arith, few, loose_fewer columns loose)),
    ))
    (λ tight. ⊎_elim
    (λ some_last. omega (
      arith,
      waiting_tight columns tight,
      count_knot columns tight some_last,
      waiting_met n (without_last_where (is_in_knot columns) columns) (omega (arith, few, shed_knot columns some_last)),
    ))
    (λ none. omega (arith, (count_none columns tight none).1))
    (cases_Bool (list_any (λ column. has_last (last_of column)) columns)))
    (cases_Bool (list_any (is_loose columns) columns))

pub waiting_counts : (columns : List (List ℕ)) → waiting_in columns ≤ knot_count columns
waiting_counts columns = waiting_met (cards_in columns) columns (omega arith)
