-- Columns that are shed: where loose cards go, it is at their price, and tied ones go at one.
use Rattle.std.proofs.Common.{◌≡◌, ℕ, ◌+◌, ◌-◌, ◌<◌, ◌≤◌, zero, suc, Bool, true, false, cond, Option, Some, None, List, [], ◌∷◌, ◌++◌, All, get_or, set, drop, length, take-append-drop, append-nil, append_assoc, refl, sym, ◌∙◌, ap, ⊎_elim, true≢false, arith}
use Rattle.std.specs.Prelude.{◌&&◌, ◌||◌, not, count_by}
use Rattle.std.proofs.lemmas.Bool.{and_parts, and_cases, or_cases, or_parts, not-true}
use Rattle.std.proofs.lemmas.List.{get_or_at, set_at}
use Rattle.std.proofs.lemmas.List.Elements.{All-map, All-take, All-weaker}
use Rattle.std.proofs.lemmas.List.Sums.{sum_by-cons}
use Rattle.fc_position.specs.Board.{last_of, front_of}
use Rattle.fc_position.specs.Tally.{AllCards}
use Rattle.fc_bound.specs.Clearing.{waits, without, clearing_cost}
use Rattle.fc_bound.specs.Knots.{has_last, waits_above, is_loose, without_last_where}
use Rattle.fc_bound.proofs.AboveLemmas.{not_true}
use Rattle.fc_bound.proofs.ClearingOrders.{IsFront, AreFronts, fronts-same, fronts-wait, cost-fronts, free_first}
use Rattle.fc_bound.proofs.ClearingTied.{TiedBy, tied-best, tied-alone}

-- each card in the columns is the number of a card
abbrev pub AreCards : List (List ℕ) → Type 0
AreCards columns = All AllCards columns

-- it stays one where columns lose their last card
cards-less : (x : List ℕ) (b : Bool) → AllCards x → AllCards (cond b (front_of x) x)
cards-less x true cards = All-take (λ c. c < 52) (length x - 1) x cards
cards-less x false cards = cards

pub shed-cards : (test : List ℕ → Bool) (columns : List (List ℕ)) → AreCards columns → AreCards (without_last_where test columns)
shed-cards test columns cards =
    All-map AllCards (λ column. cond (test column) (front_of column) column) columns
    (All-weaker AllCards (λ x. AllCards (cond (test x) (front_of x) x)) (λ x all. cards-less x (test x) all) columns cards)

-- a list without its last card is a front of it
front-less : (x : List ℕ) (b : Bool) → IsFront (cond b (front_of x) x) x
front-less x true = (drop (length x - 1) x, sym (take-append-drop (length x - 1) x))
front-less x false = ([], sym (append-nil x))

pub shed-fronts : (test : List ℕ → Bool) (columns : List (List ℕ)) → AreFronts (without_last_where test columns) columns
shed-fronts test [] = tt
shed-fronts test (x ∷ xs) = (front-less x (test x), shed-fronts test xs)

-- columns that are shed are fronts of those that lost one card alone, where that one's column is shed
shed-without : (test : List ℕ → Bool) (columns : List (List ℕ)) (i : ℕ) → test (get_or columns i []) ≡ true
    → AreFronts (without_last_where test columns) (without columns i)
shed-without test [] i passes = tt
shed-without test (x ∷ xs) zero passes =
    (([], ap (λ t. cond t (front_of x) x) (sym passes) ∙ sym (append-nil (cond (test x) (front_of x) x))), shed-fronts test xs)
shed-without test (x ∷ xs) (suc i) passes = (front-less x (test x), shed-without test xs i passes)

-- the column of a place passes the test, and has a last card
abbrev pub is_shed : List (List ℕ) → (List ℕ → Bool) → ℕ → Bool
is_shed columns test i = test (get_or columns i []) && has_last (last_of (get_or columns i []))

-- tied columns are shed at one
pub shed-tied : (columns : List (List ℕ)) (test : List ℕ → Bool) → TiedBy columns (is_shed columns test)
    → 1 + clearing_cost (without_last_where test columns) ≤ clearing_cost columns
shed-tied columns test t =
    let (i, passes, best) = tied-best columns (is_shed columns test) t in
    let fewer = shed-without test columns i (and_parts (test (get_or columns i [])) (has_last (last_of (get_or columns i []))) passes).0 in
    omega (arith, best, cost-fronts (without_last_where test columns) (without columns i) fewer)

-- a column among others, and those without its last card
pub fronts-among : (before : List (List ℕ)) (x : List ℕ) (b : Bool) (xs : List (List ℕ))
    → AreFronts (before ++ cond b (front_of x) x ∷ xs) (before ++ x ∷ xs)
fronts-among [] x b xs = (front-less x b, fronts-same xs)
fronts-among (y ∷ before) x b xs = (([], sym (append-nil y)), fronts-among before x b xs)

pub without-among : (before : List (List ℕ)) (x : List ℕ) (xs : List (List ℕ))
    → without (before ++ x ∷ xs) (length before) ≡ before ++ front_of x ∷ xs
without-among before x xs =
    ap (λ cards. set (before ++ x ∷ xs) (length before) (front_of cards)) (get_or_at before x xs [] (length before) refl)
    ∙ set_at before x xs (front_of x) (length before) refl

-- a card that waits for one beneath it goes at one, and one that waits for none at nothing
take-above : (before : List (List ℕ)) (x : List ℕ) (xs : List (List ℕ)) → waits_above x ≡ true
    → 1 + clearing_cost (before ++ front_of x ∷ xs) ≤ clearing_cost (before ++ x ∷ xs)
take-above before x xs above =
    let here = get_or_at before x xs [] (length before) refl in
    let alone = tied-alone (before ++ x ∷ xs) (length before) (ap waits_above here ∙ above) in
    omega (arith, alone, ap clearing_cost (without-among before x xs))

take-free : (before : List (List ℕ)) (x : List ℕ) (xs : List (List ℕ)) → waits (before ++ x ∷ xs) (last_of x) ≡ false
    → clearing_cost (before ++ front_of x ∷ xs) ≤ clearing_cost (before ++ x ∷ xs)
take-free before x xs free =
    let here = get_or_at before x xs [] (length before) refl in
    let first = free_first (before ++ x ∷ xs) (length before) (ap (λ cards. waits (before ++ x ∷ xs) (last_of cards)) here ∙ free) in
    omega (arith, first, ap clearing_cost (without-among before x xs))

-- what a column's last card waits for, by whether it is loose
has_none : (columns : List (List ℕ)) (o : Option ℕ) → has_last o ≡ false → waits columns o ≡ false
has_none columns None none = refl
has_none columns (Some u) none = absurd (true≢false none)

pub loose-free : (columns : List (List ℕ)) (x : List ℕ) → is_loose columns x ≡ true → waits_above x ≡ false
    → waits columns (last_of x) ≡ false
loose-free columns x loose above =
    let parts = and_parts (has_last (last_of x)) (not (waits columns (last_of x)) || waits_above x) loose in
    ⊎_elim (λ free. not-true (waits columns (last_of x)) free) (λ waiting. absurd (true≢false (sym waiting ∙ above)))
    (or_cases (not (waits columns (last_of x))) (waits_above x) parts.1)

pub tight-above : (columns : List (List ℕ)) (x : List ℕ) → is_loose columns x ≡ false → waits_above x ≡ false
tight-above columns x tight =
    ⊎_elim (λ none. has_none (x ∷ []) (last_of x) none)
    (λ both. (or_parts (not (waits columns (last_of x))) (waits_above x) both).1)
    (and_cases (has_last (last_of x)) (not (waits columns (last_of x)) || waits_above x) tight)

-- one column of those that are shed
shed-one : (columns before : List (List ℕ)) (x : List ℕ) (xs : List (List ℕ))
    → ((o : Option ℕ) → waits columns o ≡ false → waits (before ++ x ∷ xs) o ≡ false)
    → cond (waits_above x) 1 0 + clearing_cost (before ++ cond (is_loose columns x) (front_of x) x ∷ xs) ≤ clearing_cost (before ++ x ∷ xs)
shed-one columns before x xs free =
    elim (is_loose columns x) as (λ t. is_loose columns x ≡ t → cond (waits_above x) 1 0 + clearing_cost (before ++ cond t (front_of x) x ∷ xs) ≤ clearing_cost (before ++ x ∷ xs)) [
      | true ↦ λ loose. elim (waits_above x) as (λ t. waits_above x ≡ t → cond t 1 0 + clearing_cost (before ++ front_of x ∷ xs) ≤ clearing_cost (before ++ x ∷ xs)) [
        | true ↦ λ above. take-above before x xs above
        | false ↦ λ above. omega (arith, take-free before x xs (free (last_of x) (loose-free columns x loose above)))
      ] refl
      | false ↦ λ tight. let none : ◌≡◌ {A = ℕ} (cond (waits_above x) 1 0) 0 = ap (λ t. cond t 1 0) (tight-above columns x tight) in omega arith
    ] refl

-- the loose columns are shed one after another
pub shed-loose : (columns before rest : List (List ℕ)) → ((o : Option ℕ) → waits columns o ≡ false → waits (before ++ rest) o ≡ false)
    → count_by waits_above rest + clearing_cost (before ++ without_last_where (is_loose columns) rest) ≤ clearing_cost (before ++ rest)
shed-loose columns before [] free = omega arith
shed-loose columns before (x ∷ xs) free =
    let new : List ℕ = cond (is_loose columns x) (front_of x) x in
    let split : (ys : List (List ℕ)) → (before ++ new ∷ []) ++ ys ≡ before ++ new ∷ ys = λ ys. append_assoc before (new ∷ []) ys in
    let fewer : (o : Option ℕ) → waits columns o ≡ false → waits ((before ++ new ∷ []) ++ xs) o ≡ false =
    λ o idle. ap (λ now. waits now o) (split xs) ∙ not_true (waits (before ++ new ∷ xs) o) (λ waiting.
    true≢false (sym (fronts-wait (before ++ new ∷ xs) (before ++ x ∷ xs) o (fronts-among before x (is_loose columns x) xs) waiting) ∙ free o idle)) in
    let later = shed-loose columns (before ++ new ∷ []) xs fewer in
    let one : clearing_cost ((before ++ new ∷ []) ++ xs) ≡ clearing_cost (before ++ new ∷ xs) = ap clearing_cost (split xs) in
    let all : clearing_cost ((before ++ new ∷ []) ++ without_last_where (is_loose columns) xs) ≡ clearing_cost (before ++ new ∷ without_last_where (is_loose columns) xs) =
    ap clearing_cost (split (without_last_where (is_loose columns) xs)) in
    omega (arith, shed-one columns before x xs free, later, one, all, sum_by-cons (λ c. cond (waits_above c) 1 0) x xs)
