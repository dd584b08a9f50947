-- The clearing cost is the least over all orders.
use Rattle.std.proofs.Common.{◌≡◌, ℕ, ◌+◌, ◌-◌, ◌<◌, ◌≤◌, ◌⊎◌, zero, suc, cond, Option, Some, None, List, [], ◌∷◌, length, get_or, set, refl, sym, ◌∙◌, ap, inl, inr, ⊎_elim, arith}
use Rattle.std.specs.Prelude.{min}
use Rattle.std.proofs.Math.Nat.{min-le_left, min-le_right, min-eq_left, min-eq_right}
use Rattle.std.proofs.lemmas.Bool.{cases_lt}
use Rattle.std.proofs.lemmas.List.{get_or_past, set-get_or, length_push}
use Rattle.std.proofs.lemmas.List.Sums.{sum_by-set}
use Rattle.std.proofs.lemmas.Option.{slice_get-get_or}
use Rattle.fc_position.specs.Board.{last_of, front_of}
use Rattle.fc_position.proofs.BoardLemmas.{front_last}
use Rattle.fc_bound.specs.Clearing.{waits, fee, without, cards_in, order_cost, least_of, least_cost, clearing_cost}
use Rattle.fc_bound.specs.Laws.{ClearingCostIsLeast}

-- the least is no more than each, and is one of them
least-most : (most : ℕ) (f : ℕ → ℕ) (n : ℕ) → least_of most f n ≤ most
least-most most f zero = omega arith
least-most most f (suc n) = omega (arith, least-most most f n, min-le_left (least_of most f n) (f n))

least-at : (most : ℕ) (f : ℕ → ℕ) (n i : ℕ) → i < n → least_of most f n ≤ f i
least-at most f zero i below = absurd (omega arith)
least-at most f (suc n) i below =
    ⊎_elim (λ lt. omega (arith, least-at most f n i lt, min-le_left (least_of most f n) (f n)))
    (λ le. let last : f n ≡ f i = ap f (omega arith) in omega (arith, last, min-le_right (least_of most f n) (f n)))
    (cases_lt i n)

least-is : (most : ℕ) (f : ℕ → ℕ) (n : ℕ) → (least_of most f n ≡ most) ⊎ ((i : ℕ) × (i < n) × (least_of most f n ≡ f i))
least-is most f zero = inl refl
least-is most f (suc n) =
    ⊎_elim (λ lt. let here : min (least_of most f n) (f n) ≡ f n = min-eq_right (omega arith) in inr (n, omega arith, here))
    (λ le. let before : min (least_of most f n) (f n) ≡ least_of most f n = min-eq_left (omega arith) in
    ⊎_elim (λ e. inl (before ∙ e)) (λ found. inr (found.0, omega (arith, found.1), before ∙ found.2)) (least-is most f n))
    (cases_lt (f n) (least_of most f n))

-- a list without a last card is empty
none_last : (cards : List ℕ) → last_of cards ≡ None → cards ≡ []
none_last [] none = refl
none_last (x ∷ xs) none =
    let some_card = slice_get-get_or (x ∷ xs) (length (x ∷ xs) - 1) 0 (omega arith) in absurd (cc)

-- a column without a last card stays as it is, and costs nothing
pub without_none : (columns : List (List ℕ)) (i : ℕ) → last_of (get_or columns i []) ≡ None → without columns i ≡ columns
without_none columns i none =
    let empty = none_last (get_or columns i []) none in
    let same : front_of (get_or columns i []) ≡ get_or columns i [] = ap front_of empty ∙ sym empty in
    ap (set columns i) same ∙ set-get_or columns i []

pub fee_none : (columns : List (List ℕ)) (i : ℕ) → last_of (get_or columns i []) ≡ None → fee columns i ≡ 0
fee_none columns i none = ap (λ o. cond (waits columns o) 1 0) none

-- a column with a last card is there, and has one card less without it
pub last_there : (columns : List (List ℕ)) (i u : ℕ) → last_of (get_or columns i []) ≡ Some u → i < length columns
last_there columns i u last =
    ⊎_elim (λ lt. lt)
    (λ le. let none : last_of (get_or columns i []) ≡ None = ap last_of (get_or_past columns i [] le) in absurd (cc (last, none)))
    (cases_lt i (length columns))

pub cards_without : (columns : List (List ℕ)) (i u : ℕ) → last_of (get_or columns i []) ≡ Some u
    → cards_in (without columns i) + 1 ≡ cards_in columns
cards_without columns i u last =
    let whole = ap (λ (cards : List ℕ). length cards) (front_last (get_or columns i []) u last) in
    omega (
      arith,
      sum_by-set (λ (cards : List ℕ). length cards) columns i (front_of (get_or columns i [])) [] (last_there columns i u last),
      whole,
      length_push (front_of (get_or columns i [])) u,
    )

-- a column has a last card, or it has none
abbrev pub LastOf : List (List ℕ) → ℕ → Type 0
LastOf columns i = (last_of (get_or columns i []) ≡ None) ⊎ ((u : ℕ) × (last_of (get_or columns i []) ≡ Some u))

pub cases_last : (columns : List (List ℕ)) (i : ℕ) → LastOf columns i
cases_last columns i = go (last_of (get_or columns i [])) refl
  where
    go : (o : Option ℕ) → last_of (get_or columns i []) ≡ o → LastOf columns i
    go None e = inl e
    go (Some u) e = inr (u, e)

-- no order costs less than the least
least-cards : (n : ℕ) (columns : List (List ℕ)) → least_cost n columns ≤ cards_in columns
unfolding least_cost
least-cards zero columns = omega arith
least-cards (suc n) columns =
    least-most (cards_in columns) (λ i. fee columns i + least_cost n (without columns i)) (length columns)

least-step : (n i : ℕ) (columns : List (List ℕ)) → i < length columns
    → least_cost (suc n) columns ≤ fee columns i + least_cost n (without columns i)
unfolding least_cost
least-step n i columns inside =
    least-at (cards_in columns) (λ i. fee columns i + least_cost n (without columns i)) (length columns) i inside

-- the same one card later
least-later : (n i u : ℕ) (columns : List (List ℕ)) (cost : ℕ) → last_of (get_or columns i []) ≡ Some u → cards_in columns ≤ n
    → ((m : ℕ) → cards_in (without columns i) ≤ m → least_cost m (without columns i) ≤ cost)
    → least_cost n columns ≤ fee columns i + cost
least-later zero i u columns cost last few later = absurd (omega (arith, few, cards_without columns i u last))
least-later (suc n) i u columns cost last few later =
    let rest = later n (omega (arith, few, cards_without columns i u last)) in
    omega (arith, rest, least-step n i columns (last_there columns i u last))

least-below : (order : List ℕ) (n : ℕ) (columns : List (List ℕ)) → cards_in columns ≤ n → least_cost n columns ≤ order_cost columns order
least-below [] n columns few = least-cards n columns
least-below (i ∷ order) n columns few =
    ⊎_elim
    (λ none. let same = ap (λ now. order_cost now order) (without_none columns i none) in
    omega (arith, same, fee_none columns i none, least-below order n columns few))
    (λ some_last. least-later n i some_last.0 columns (order_cost (without columns i) order) some_last.1 few
    (λ m enough. least-below order m (without columns i) enough))
    (cases_last columns i)

-- some order costs as much
abbrev pub OrderOf : List (List ℕ) → ℕ → Type 0
OrderOf columns cost = (order : List ℕ) × (order_cost columns order ≡ cost)

least-order : (n : ℕ) (columns : List (List ℕ)) → OrderOf columns (least_cost n columns)
unfolding least_cost
least-order zero columns = ([], refl)
least-order (suc n) columns =
    ⊎_elim (λ e. ([], sym e))
    (λ found. let later = least-order n (without columns found.0) in
    (found.0 ∷ later.0, ap (λ cost. fee columns found.0 + cost) later.1 ∙ sym found.2))
    (least-is (cards_in columns) (λ i. fee columns i + least_cost n (without columns i)) (length columns))

pub clearing_least : (columns : List (List ℕ)) (order : List ℕ) → clearing_cost columns ≤ order_cost columns order
unfolding clearing_cost
clearing_least columns order = least-below order (cards_in columns) columns (omega arith)

pub clearing_order : (columns : List (List ℕ)) → OrderOf columns (clearing_cost columns)
unfolding clearing_cost
clearing_order columns = least-order (cards_in columns) columns

pub cost_least : ClearingCostIsLeast
cost_least columns = (clearing_least columns, clearing_order columns)
