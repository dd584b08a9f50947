-- A loose card may be taken out by itself: without it as many knots are met, but for the one that it may be itself.
use Rattle.std.proofs.Common.{◌≡◌, ℕ, ◌+◌, ◌<◌, ◌≤◌, zero, suc, true, false, cond, Option, List, [], ◌∷◌, ◌++◌, length, get_or, append-nil, append_assoc, refl, sym, ◌∙◌, ap, ⊎_elim, true≢false, arith}
use Rattle.std.specs.Prelude.{◌||◌, Bool, not, count_by}
use Rattle.std.specs.List.{list_any}
use Rattle.std.proofs.lemmas.Bool.{and_parts, and_from, or_cases, or_left, or_right, not-true}
use Rattle.std.proofs.lemmas.List.{get_or_at}
use Rattle.std.proofs.lemmas.List.Folds.{list_any-append}
use Rattle.std.proofs.lemmas.List.Sums.{sum_by-cons, sum_by-append}
use Rattle.fc_position.specs.Board.{last_of, front_of}
use Rattle.fc_bound.specs.Clearing.{waits, without, cards_in}
use Rattle.fc_bound.specs.Knots.{has_last, waits_above, is_loose, without_last_where, knot_count}
use Rattle.fc_bound.proofs.AboveLemmas.{not_true, or-true}
use Rattle.fc_bound.proofs.ClearingLemmas.{last_there}
use Rattle.fc_bound.proofs.ClearingOrders.{fronts-wait}
use Rattle.fc_bound.proofs.ClearingSearch.{take_fewer}
use Rattle.fc_bound.proofs.KnotShed.{fronts-among, without-among, tight-above}
use Rattle.fc_bound.proofs.LeftLemmas.{last_is}
use Rattle.fc_bound.proofs.WaitingLemmas.{count_loose}

-- what is shown of columns with no more cards than so many
abbrev GoesFirst : ℕ → Type 0
GoesFirst n = (s : List (List ℕ)) (i : ℕ) → cards_in s ≤ n → is_loose s (get_or s i []) ≡ true
    → knot_count s ≡ cond (waits_above (get_or s i [])) 1 0 + knot_count (without s i)

-- a column that is loose stays loose where fewer cards are waited for
still-loose : (s t : List (List ℕ)) (x : List ℕ) → is_loose s x ≡ true → (waits s (last_of x) ≡ false → waits t (last_of x) ≡ false)
    → is_loose t x ≡ true
still-loose s t x loose free =
    let parts = and_parts (has_last (last_of x)) (not (waits s (last_of x)) || waits_above x) loose in
    and_from (has_last (last_of x)) (not (waits t (last_of x)) || waits_above x) parts.0
    (⊎_elim (λ idle. or_left (not (waits t (last_of x))) (waits_above x) (ap not (free (not-true (waits s (last_of x)) idle))))
    (λ above. or_right (not (waits t (last_of x))) (waits_above x) above)
    (or_cases (not (waits s (last_of x))) (waits_above x) parts.1))

loose_last : (s : List (List ℕ)) (x : List ℕ) → is_loose s x ≡ true → has_last (last_of x) ≡ true
loose_last s x loose = (and_parts (has_last (last_of x)) (not (waits s (last_of x)) || waits_above x) loose).0

-- columns of which some have lost their last card, at what these cards add
record Shed (n : ℕ) (s was now : List (List ℕ)) (met : ℕ) : Type 0 where
  knots : knot_count was ≡ met + knot_count now
  few : cards_in now ≤ n
  free : (o : Option ℕ) → waits s o ≡ false → waits now o ≡ false

-- one column of others
shed-first : (n : ℕ) → GoesFirst n → (s before : List (List ℕ)) (x : List ℕ) (ys : List (List ℕ)) → cards_in (before ++ x ∷ ys) ≤ n
    → ((o : Option ℕ) → waits s o ≡ false → waits (before ++ x ∷ ys) o ≡ false)
    → Shed n s (before ++ x ∷ ys) (before ++ cond (is_loose s x) (front_of x) x ∷ ys) (cond (waits_above x) 1 0)
shed-first n first s before x ys few free =
    let t : List (List ℕ) = before ++ x ∷ ys in
    let fewer : (o : Option ℕ) → waits s o ≡ false → waits (before ++ cond (is_loose s x) (front_of x) x ∷ ys) o ≡ false =
    λ o idle. not_true (waits (before ++ cond (is_loose s x) (front_of x) x ∷ ys) o) (λ waiting.
    true≢false (sym (fronts-wait (before ++ cond (is_loose s x) (front_of x) x ∷ ys) t o (fronts-among before x (is_loose s x) ys) waiting) ∙ free o idle)) in
    elim (is_loose s x) as (λ f. is_loose s x ≡ f
    → ((o : Option ℕ) → waits s o ≡ false → waits (before ++ cond f (front_of x) x ∷ ys) o ≡ false)
    → Shed n s (before ++ x ∷ ys) (before ++ cond f (front_of x) x ∷ ys) (cond (waits_above x) 1 0)) [
      | true ↦ λ loose fewer.
          let here : get_or t (length before) [] ≡ x = get_or_at before x ys [] (length before) refl in
          let now : is_loose t x ≡ true = still-loose s t x loose (free (last_of x)) in
          let taken = first t (length before) few (ap (is_loose t) here ∙ now) in
          let price : ◌≡◌ {A = ℕ} (cond (waits_above (get_or t (length before) [])) 1 0) (cond (waits_above x) 1 0) = ap (λ y. cond (waits_above y) 1 0) here in
          let after : without t (length before) ≡ before ++ front_of x ∷ ys = without-among before x ys in
          let less = take_fewer t (length before) (ap (λ y. has_last (last_of y)) here ∙ loose_last s x loose) in
          record {
            knots = omega (arith, taken, price, ap knot_count after);
            few = omega (arith, few, less, ap cards_in after);
            free = fewer;
          }
      | false ↦ λ tight fewer.
          let none : ◌≡◌ {A = ℕ} (cond (waits_above x) 1 0) 0 = ap (λ t. cond t 1 0) (tight-above s x tight) in
          record { knots = omega (arith, none); few = few; free = fewer }
    ] refl fewer

-- the columns of a part, one after another
shed-part : (n : ℕ) → GoesFirst n → (s before rest after : List (List ℕ)) → cards_in (before ++ (rest ++ after)) ≤ n
    → ((o : Option ℕ) → waits s o ≡ false → waits (before ++ (rest ++ after)) o ≡ false)
    → Shed n s (before ++ (rest ++ after)) (before ++ (without_last_where (is_loose s) rest ++ after)) (count_by waits_above rest)
shed-part n first s before [] after few free = record { knots = omega arith; few = few; free = free }
shed-part n first s before (x ∷ xs) after few free =
    let new : List ℕ = cond (is_loose s x) (front_of x) x in
    let split : (ys : List (List ℕ)) → (before ++ new ∷ []) ++ ys ≡ before ++ new ∷ ys = λ ys. append_assoc before (new ∷ []) ys in
    let one = shed-first n first s before x (xs ++ after) few free in
    let later = shed-part n first s (before ++ new ∷ []) xs after
    (omega (arith, one.few, ap cards_in (split (xs ++ after))))
    (λ o idle. ap (λ now. waits now o) (split (xs ++ after)) ∙ one.free o idle) in
    let last = split (without_last_where (is_loose s) xs ++ after) in
    record {
      knots = omega (
        arith,
        one.knots,
        ap knot_count (split (xs ++ after)),
        later.knots,
        ap knot_count last,
        sum_by-cons (λ c. cond (waits_above c) 1 0) x xs,
      );
      few = omega (arith, later.few, ap cards_in last);
      free = λ o idle. ap (λ now. waits now o) (sym last) ∙ later.free o idle;
    }

shed-append : (test : List ℕ → Bool) (xs ys : List (List ℕ)) → without_last_where test (xs ++ ys) ≡ without_last_where test xs ++ without_last_where test ys
shed-append test [] ys = refl
shed-append test (x ∷ xs) ys = ap (λ (zs : List (List ℕ)). cond (test x) (front_of x) x ∷ zs) (shed-append test xs ys)

-- a loose column among others: all others that are loose lose their last card after it, as they would with it
taken-among : (n : ℕ) → GoesFirst n → (before : List (List ℕ)) (x : List ℕ) (after : List (List ℕ)) → cards_in (before ++ x ∷ after) ≤ suc n
    → is_loose (before ++ x ∷ after) x ≡ true
    → knot_count (before ++ x ∷ after) ≡ cond (waits_above x) 1 0 + knot_count (before ++ front_of x ∷ after)
taken-among n first before x after few loose =
    let s : List (List ℕ) = before ++ x ∷ after in
    let t : List (List ℕ) = before ++ front_of x ∷ after in
    let here : get_or s (length before) [] ≡ x = get_or_at before x after [] (length before) refl in
    let less = take_fewer s (length before) (ap (λ y. has_last (last_of y)) here ∙ loose_last s x loose) in
    let few_now : cards_in t ≤ n = omega (arith, few, less, ap cards_in (without-among before x after)) in
    let free_now : (o : Option ℕ) → waits s o ≡ false → waits t o ≡ false =
    λ o idle. not_true (waits t o) (λ waiting. true≢false (sym (fronts-wait t s o (fronts-among before x true after) waiting) ∙ idle)) in
    let one = shed-part n first s [] before (front_of x ∷ after) few_now free_now in
    let front : List (List ℕ) = without_last_where (is_loose s) before ++ front_of x ∷ [] in
    let join : (ys : List (List ℕ)) → front ++ (ys ++ []) ≡ without_last_where (is_loose s) before ++ front_of x ∷ ys =
    λ ys. append_assoc (without_last_where (is_loose s) before) (front_of x ∷ []) (ys ++ [])
    ∙ ap (λ (zs : List (List ℕ)). without_last_where (is_loose s) before ++ front_of x ∷ zs) (append-nil ys) in
    let two = shed-part n first s front after [] (omega (arith, one.few, ap cards_in (join after)))
    (λ o idle. ap (λ now. waits now o) (join after) ∙ one.free o idle) in
    let some_loose : list_any (is_loose s) s ≡ true =
    list_any-append (is_loose s) before (x ∷ after) ∙ ap (λ f. list_any (is_loose s) before || (f || list_any (is_loose s) after)) loose
    ∙ or-true (list_any (is_loose s) before) in
    let all : without_last_where (is_loose s) s ≡ without_last_where (is_loose s) before ++ front_of x ∷ without_last_where (is_loose s) after =
    shed-append (is_loose s) before (x ∷ after)
    ∙ ap (λ f. without_last_where (is_loose s) before ++ cond f (front_of x) x ∷ without_last_where (is_loose s) after) loose in
    omega (
      arith,
      count_loose s some_loose,
      ap knot_count all,
      sum_by-append (λ c. cond (waits_above c) 1 0) before (x ∷ after),
      sum_by-cons (λ c. cond (waits_above c) 1 0) x after,
      one.knots,
      ap knot_count (join after),
      two.knots,
      ap knot_count (join (without_last_where (is_loose s) after)),
    )

-- columns by a column of them
record Among (s : List (List ℕ)) (i : ℕ) : Type 0 where
  before : List (List ℕ)
  after : List (List ℕ)
  whole : s ≡ before ++ get_or s i [] ∷ after
  less : without s i ≡ before ++ front_of (get_or s i []) ∷ after

among : (s : List (List ℕ)) (i : ℕ) → i < length s → Among s i
among [] i inside = absurd (omega (arith, inside))
among (x ∷ xs) zero inside = record { before = []; after = xs; whole = refl; less = refl }
among (x ∷ xs) (suc i) inside =
    let a = among xs i (omega (arith, inside)) in
    record {
      before = x ∷ a.before;
      after = a.after;
      whole = ap (λ (ys : List (List ℕ)). x ∷ ys) a.whole;
      less = ap (λ (ys : List (List ℕ)). x ∷ ys) a.less;
    }

goes_first : (n : ℕ) → GoesFirst n
goes_first zero s i few loose = absurd (omega (arith, few, take_fewer s i (loose_last s (get_or s i []) loose)))
goes_first (suc n) s i few loose =
    let x : List ℕ = get_or s i [] in
    let u = last_is (last_of x) (loose_last s x loose) in
    let a = among s i (last_there s i u.0 u.1) in
    let taken = taken-among n (goes_first n) a.before x a.after (omega (arith, few, ap cards_in a.whole)) (ap (λ v. is_loose v x) (sym a.whole) ∙ loose) in
    omega (arith, ap knot_count a.whole, taken, ap knot_count a.less)

pub loose_first : (columns : List (List ℕ)) (i : ℕ) → is_loose columns (get_or columns i []) ≡ true
    → knot_count columns ≡ cond (waits_above (get_or columns i [])) 1 0 + knot_count (without columns i)
loose_first columns i loose = goes_first (cards_in columns) columns i (omega arith) loose
