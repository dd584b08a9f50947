-- What the search for the clearing cost goes by: loose cards go first at their price, and then a column of the knot.
use Rattle.std.proofs.Common.{◌≡◌, ℕ, ◌+◌, ◌-◌, ◌<◌, ◌≤◌, true, false, cond, Option, List, [], ◌∷◌, ◌++◌, length, get_or, refl, sym, ◌∙◌, ap, subst, ⊎_elim, true≢false, append_assoc, arith}
use Rattle.std.specs.Prelude.{◌||◌, not, nat_lt, count_by}
use Rattle.std.specs.List.{list_any}
use Rattle.std.proofs.lemmas.Bool.{and_parts, cases_eq}
use Rattle.std.proofs.lemmas.Bool.Decides.{nat_tests}
use Rattle.std.proofs.lemmas.List.{get_or_at, get_or-set_same, get_or-set_other, length-set}
use Rattle.std.proofs.lemmas.List.Elements.{All-take}
use Rattle.std.proofs.lemmas.List.Sums.{sum_by-cons}
use Rattle.fc_position.specs.Board.{last_of, front_of}
use Rattle.fc_position.specs.Tally.{AllCards}
use Rattle.fc_bound.specs.Clearing.{waits, fee, without, cards_in, clearing_cost}
use Rattle.fc_bound.specs.Knots.{has_last, waits_above, is_loose, is_in_knot, without_last_where}
use Rattle.fc_bound.proofs.AboveLemmas.{not_true}
use Rattle.fc_bound.proofs.HeldLemmas.{found, bit_most}
use Rattle.fc_bound.proofs.ClearingLemmas.{cards_without, clearing_least}
use Rattle.fc_bound.proofs.ClearingOrders.{fronts-wait, cost-taken}
use Rattle.fc_bound.proofs.ClearingTied.{tied-best}
use Rattle.fc_bound.proofs.LeftLemmas.{has_last_is, last_is}
use Rattle.fc_bound.proofs.KnotLemmas.{knot-tied}
use Rattle.fc_bound.proofs.KnotShed.{AreCards, is_shed, fronts-among, without-among, loose-free, shed-loose}
use Rattle.fc_bound.proofs.KnotSteps.{shed_at}

-- taking a loose card costs its price at most
one-loose : (columns before : List (List ℕ)) (x : List ℕ) (xs : List (List ℕ))
    → ((o : Option ℕ) → waits columns o ≡ false → waits (before ++ x ∷ xs) o ≡ false)
    → clearing_cost (before ++ x ∷ xs) ≤ cond (waits_above x) 1 0 + clearing_cost (before ++ cond (is_loose columns x) (front_of x) x ∷ xs)
one-loose columns before x xs free =
    let here : get_or (before ++ x ∷ xs) (length before) [] ≡ x = get_or_at before x xs [] (length before) refl in
    let taken = cost-taken (before ++ x ∷ xs) (length before) in
    let after : clearing_cost (without (before ++ x ∷ xs) (length before)) ≡ clearing_cost (before ++ front_of x ∷ xs) =
    ap clearing_cost (without-among before x xs) in
    let price : fee (before ++ x ∷ xs) (length before) ≡ cond (waits (before ++ x ∷ xs) (last_of x)) 1 0 =
    ap (λ cards. cond (waits (before ++ x ∷ xs) (last_of cards)) 1 0) here in
    elim (is_loose columns x) as (λ t. is_loose columns x ≡ t → clearing_cost (before ++ x ∷ xs) ≤ cond (waits_above x) 1 0 + clearing_cost (before ++ cond t (front_of x) x ∷ xs)) [
      | true ↦ λ loose. elim (waits_above x) as (λ t. waits_above x ≡ t → clearing_cost (before ++ x ∷ xs) ≤ cond t 1 0 + clearing_cost (before ++ front_of x ∷ xs)) [
        | true ↦ λ _. omega (arith, taken, after, price, bit_most (waits (before ++ x ∷ xs) (last_of x)))
        | false ↦ λ above.
            let none : ◌≡◌ {A = ℕ} (cond (waits (before ++ x ∷ xs) (last_of x)) 1 0) 0 =
            ap (λ t. cond t 1 0) (free (last_of x) (loose-free columns x loose above)) in
            omega (arith, taken, after, price, none)
      ] refl
      | false ↦ λ _. omega arith
    ] refl

all-loose : (columns before rest : List (List ℕ)) → ((o : Option ℕ) → waits columns o ≡ false → waits (before ++ rest) o ≡ false)
    → clearing_cost (before ++ rest) ≤ count_by waits_above rest + clearing_cost (before ++ without_last_where (is_loose columns) rest)
all-loose columns before [] free = omega arith
all-loose columns before (x ∷ xs) free =
    let new : List ℕ = cond (is_loose columns x) (front_of x) x in
    let split : (ys : List (List ℕ)) → (before ++ new ∷ []) ++ ys ≡ before ++ new ∷ ys = λ ys. append_assoc before (new ∷ []) ys in
    let fewer : (o : Option ℕ) → waits columns o ≡ false → waits ((before ++ new ∷ []) ++ xs) o ≡ false =
    λ o idle. ap (λ now. waits now o) (split xs) ∙ not_true (waits (before ++ new ∷ xs) o) (λ waiting.
    true≢false (sym (fronts-wait (before ++ new ∷ xs) (before ++ x ∷ xs) o (fronts-among before x (is_loose columns x) xs) waiting) ∙ free o idle)) in
    let later = all-loose columns (before ++ new ∷ []) xs fewer in
    let one : clearing_cost ((before ++ new ∷ []) ++ xs) ≡ clearing_cost (before ++ new ∷ xs) = ap clearing_cost (split xs) in
    let all : clearing_cost ((before ++ new ∷ []) ++ without_last_where (is_loose columns) xs) ≡ clearing_cost (before ++ new ∷ without_last_where (is_loose columns) xs) =
    ap clearing_cost (split (without_last_where (is_loose columns) xs)) in
    omega (arith, one-loose columns before x xs free, later, one, all, sum_by-cons (λ c. cond (waits_above c) 1 0) x xs)

-- the loose cards go first, at their price
pub loose_cost : (columns : List (List ℕ))
    → clearing_cost columns ≡ count_by waits_above columns + clearing_cost (without_last_where (is_loose columns) columns)
loose_cost columns = omega (
  arith,
  all-loose columns [] columns (λ o free. free),
  shed-loose columns [] columns (λ o free. free),
)

-- where some card is loose, fewer are left without the loose ones
pub loose_fewer : (columns : List (List ℕ)) → list_any (is_loose columns) columns ≡ true
    → 1 + cards_in (without_last_where (is_loose columns) columns) ≤ cards_in columns
loose_fewer columns loose =
    let f = found (is_loose columns) columns loose in
    let x : List ℕ = get_or columns f.place [] in
    shed_at (is_loose columns) columns f.place f.inside f.passes
    (and_parts (has_last (last_of x)) (not (waits columns (last_of x)) || waits_above x) f.passes).0

-- columns without last cards cost nothing
pub no_cards : (columns : List (List ℕ)) → list_any (λ column. has_last (last_of column)) columns ≡ false → cards_in columns ≡ 0
no_cards [] none = refl
no_cards ([] ∷ xs) none = omega (arith, sum_by-cons (λ (cards : List ℕ). length cards) [] xs, no_cards xs none)
no_cards ((d ∷ cards) ∷ xs) none =
    let has : has_last (last_of (d ∷ cards)) ≡ true =
    let more : nat_lt 0 (length (d ∷ cards)) ≡ true = grind (arith, nat_tests) in has_last_is (d ∷ cards) ∙ more in
    absurd (true≢false (sym (ap (λ t. t || list_any (λ column. has_last (last_of column)) xs) has) ∙ none))

pub none_cost : (columns : List (List ℕ)) → list_any (λ column. has_last (last_of column)) columns ≡ false → clearing_cost columns ≡ 0
none_cost columns none = omega (arith, clearing_least columns [], no_cards columns none)

-- where no card is loose, some one column of the knot goes first, at one
pub record KnotFirst (columns : List (List ℕ)) : Type 0 where
  pub place : ℕ
  pub in_knot : is_in_knot columns (get_or columns place []) ≡ true
  pub some_last : has_last (last_of (get_or columns place [])) ≡ true
  pub best : clearing_cost columns ≡ 1 + clearing_cost (without columns place)

pub knot_first : (columns : List (List ℕ)) → AreCards columns → list_any (is_loose columns) columns ≡ false
    → list_any (λ column. has_last (last_of column)) columns ≡ true → KnotFirst columns
knot_first columns cards tight some_last =
    let first = tied-best columns (is_shed columns (is_in_knot columns)) (knot-tied columns cards tight some_last) in
    let parts = and_parts (is_in_knot columns (get_or columns first.0 [])) (has_last (last_of (get_or columns first.0 []))) first.1 in
    record { place = first.0; in_knot = parts.0; some_last = parts.1; best = first.2 }

-- a column that goes first costs one at most
pub take_cost : (columns : List (List ℕ)) (i : ℕ) → clearing_cost columns ≤ 1 + clearing_cost (without columns i)
take_cost columns i =
    omega (arith, cost-taken columns i, bit_most (waits columns (last_of (get_or columns i []))))

pub take_fewer : (columns : List (List ℕ)) (i : ℕ) → has_last (last_of (get_or columns i [])) ≡ true
    → cards_in (without columns i) + 1 ≡ cards_in columns
take_fewer columns i some_last =
    let one = last_is (last_of (get_or columns i [])) some_last in cards_without columns i one.0 one.1

-- cards stay cards where one is taken
pub take_cards : (columns : List (List ℕ)) (i : ℕ) → i < length columns → AreCards columns → AreCards (without columns i)
take_cards columns i there cards = λ k d inside.
    ⊎_elim
    (λ e. subst AllCards (sym (ap (λ j. get_or (without columns i) j d) e ∙ get_or-set_same columns i (front_of (get_or columns i [])) d there))
    (All-take (λ c. c < 52) (length (get_or columns i []) - 1) (get_or columns i []) (cards i [] there)))
    (λ ne. subst AllCards (sym (get_or-set_other columns i k (front_of (get_or columns i [])) d ne))
    (cards k d (omega (arith, inside, length-set columns i (front_of (get_or columns i []))))))
    (cases_eq k i)
