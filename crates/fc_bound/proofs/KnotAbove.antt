-- The knot bound is nowhere less than the plain one.
use Rattle.std.proofs.Common.{◌≡◌, ◌≢◌, ℕ, ◌+◌, ◌-◌, ◌≤◌, zero, suc, Bool, true, false, cond, Some, List, [], ◌∷◌, ◌++◌, length, get_or, refl, sym, ◌∙◌, ap, ⊎_elim, true≢false, arith}
use Rattle.std.specs.Prelude.{◌||◌, not, count_by}
use Rattle.std.specs.List.{list_any}
use Rattle.std.proofs.Math.Bool.{or_assoc}
use Rattle.std.proofs.lemmas.Bool.{and_parts, or_parts, cases_lt, cond_both}
use Rattle.std.proofs.lemmas.List.Folds.{list_any_at, list_any-append}
use Rattle.std.proofs.lemmas.List.Sums.{sum_by-cons}
use Rattle.std.proofs.lemmas.Option.{slice_get-get_or}
use Rattle.fc_position.specs.Board.{last_of, front_of}
use Rattle.fc_position.proofs.BoardLemmas.{front_last}
use Rattle.fc_cards.specs.Card.{all_cards}
use Rattle.fc_bound.specs.Bound.{bound, is_lower, is_above_lower}
use Rattle.fc_bound.specs.Clearing.{waits, cards_in}
use Rattle.fc_bound.specs.Knots.{has_last, waits_above, is_loose, is_in_knot, without_last_where, knots, knot_count, knot_bound}
use Rattle.fc_bound.specs.Laws.{KnotBoundIsNoLess}
use Rattle.fc_bound.proofs.AboveLemmas.{or-false, above-other, above-top}
use Rattle.fc_bound.proofs.CountLemmas.{count-but_one, count-same}
use Rattle.fc_bound.proofs.HeldLemmas.{found, held_in}
use Rattle.fc_bound.proofs.ClearingLemmas.{last_there}
use Rattle.fc_bound.proofs.KnotShed.{tight-above}
use Rattle.fc_bound.proofs.KnotSteps.{shed_at, shed_knot}
use Rattle.fc_bound.proofs.RingCosts.{some_card}
use Rattle.fc_bound.proofs.RingHeld.{held-few}

-- a list that passes a test in its front passes it
any-front : (u : ℕ) (front rest : List ℕ) → list_any (is_lower u) front ≡ true → list_any (is_lower u) (front ++ rest) ≡ true
any-front u front rest any =
    list_any-append (is_lower u) front rest ∙ ap (λ t. t || list_any (is_lower u) rest) any

-- a last card that is held back waits for a card beneath it
above-waits : (x : List ℕ) (u : ℕ) → last_of x ≡ Some u → is_above_lower u x ≡ true → waits_above x ≡ true
above-waits x u last above =
    let whole = front_last x u last in
    let lower : list_any (is_lower u) (front_of x) ≡ true =
    sym (above-top u (front_of x)) ∙ ap (is_above_lower u) (sym whole) ∙ above in
    ap (waits (x ∷ [])) last ∙ or-false (list_any (is_lower u) x)
    ∙ ap (list_any (is_lower u)) whole ∙ any-front u (front_of x) (u ∷ []) lower

-- where another test takes the place of one of three, they pass as before, or the one passed and is paid for
bits_paid : (before above after now paid : Bool) → (above ≡ true → paid ≡ true)
    → cond (before || (above || after)) 1 0 ≤ cond paid 1 0 + cond (before || (now || after)) 1 0
bits_paid true above after now paid pays = omega arith
bits_paid false true after now paid pays =
    let one : ◌≡◌ {A = ℕ} (cond paid 1 0) 1 = ap (λ t. cond t 1 0) (pays refl) in omega arith
bits_paid false false true true paid pays = omega arith
bits_paid false false true false paid pays = omega arith
bits_paid false false false now paid pays = omega arith

-- how many cards are held back in a column, or pass a test of the columns before it or after it
abbrev held_among : (ℕ → Bool) → List ℕ → (ℕ → Bool) → ℕ
held_among before x after = count_by (λ c. before c || (is_above_lower c x || after c)) all_cards

-- where a column loses its last card, that card alone may be freed, and only where it waits for a card beneath it
held-front : (before after : ℕ → Bool) (x : List ℕ) (u : ℕ) → last_of x ≡ Some u
    → held_among before x after ≤ cond (waits_above x) 1 0 + held_among before (front_of x) after
held-front before after x u last =
    let same : (c : ℕ) → u ≢ c → (before c || (is_above_lower c x || after c)) ≡ (before c || (is_above_lower c (front_of x) || after c)) =
    λ c other. ap (λ t. before c || (t || after c))
    (ap (is_above_lower c) (front_last x u last) ∙ above-other c u (front_of x) other) in
    ⊎_elim
    (λ below. omega (
      arith,
      count-but_one u (λ c. before c || (is_above_lower c x || after c)) (λ c. before c || (is_above_lower c (front_of x) || after c)) below
          (λ c other. same c (λ e. other (sym e))),
      bits_paid (before u) (is_above_lower u x) (after u) (is_above_lower u (front_of x)) (waits_above x) (above-waits x u last),
    ))
    (λ past. omega (
      arith,
      count-same (λ c. before c || (is_above_lower c x || after c)) (λ c. before c || (is_above_lower c (front_of x) || after c))
          (λ c below. same c (λ e. omega (arith, e))),
    ))
    (cases_lt u 52)

held-column : (before after : ℕ → Bool) (x : List ℕ) (flag : Bool)
    → held_among before x after ≤ cond (waits_above x) 1 0 + held_among before (cond flag (front_of x) x) after
held-column before after x false = omega arith
held-column before after [] true = omega arith
held-column before after (d ∷ cards) true =
    held-front before after (d ∷ cards) (get_or (d ∷ cards) (length (d ∷ cards) - 1) 0)
    (slice_get-get_or (d ∷ cards) (length (d ∷ cards) - 1) 0 (omega arith))

-- columns that are shed free no more cards than wait for a card beneath them
held-shed : (before : ℕ → Bool) (test : List ℕ → Bool) (columns : List (List ℕ))
    → count_by (λ c. before c || list_any (is_above_lower c) columns) all_cards
    ≤ count_by waits_above columns + count_by (λ c. before c || list_any (is_above_lower c) (without_last_where test columns)) all_cards
held-shed before test [] = omega arith
held-shed before test (x ∷ xs) =
    let new : List ℕ = cond (test x) (front_of x) x in
    let split : (ys : List (List ℕ)) → count_by (λ c. (before c || is_above_lower c new) || list_any (is_above_lower c) ys) all_cards
    ≡ held_among before new (λ c. list_any (is_above_lower c) ys) =
    λ ys. ap (λ p. count_by p all_cards) (λ i c. or_assoc (before c) (is_above_lower c new) (list_any (is_above_lower c) ys) i) in
    omega (
      arith,
      held-column before (λ c. list_any (is_above_lower c) xs) x (test x),
      held-shed (λ c. before c || is_above_lower c new) test xs,
      split xs,
      split (without_last_where test xs),
      sum_by-cons (λ c. cond (waits_above c) 1 0) x xs,
    )

held-less : (test : List ℕ → Bool) (columns : List (List ℕ))
    → held_in columns ≤ count_by waits_above columns + held_in (without_last_where test columns)
held-less test columns = held-shed (λ c. false) test columns

-- where no column is loose, no last card waits for a card beneath it
pub tight-none : (columns rest : List (List ℕ)) → list_any (is_loose columns) rest ≡ false → count_by waits_above rest ≡ 0
tight-none columns [] tight = refl
tight-none columns (x ∷ xs) tight =
    let parts = or_parts (is_loose columns x) (list_any (is_loose columns) xs) tight in
    let none : ◌≡◌ {A = ℕ} (cond (waits_above x) 1 0) 0 = ap (λ t. cond t 1 0) (tight-above columns x parts.0) in
    omega (arith, none, tight-none columns xs parts.1, sum_by-cons (λ c. cond (waits_above c) 1 0) x xs)

-- a loose card leaves, so fewer cards stand in the columns
shed-loose_one : (columns : List (List ℕ)) → list_any (is_loose columns) columns ≡ true
    → 1 + cards_in (without_last_where (is_loose columns) columns) ≤ cards_in columns
shed-loose_one columns some_loose =
    let f = found (is_loose columns) columns some_loose in
    let x : List ℕ = get_or columns f.place [] in
    shed_at (is_loose columns) columns f.place f.inside f.passes
    (and_parts (has_last (last_of x)) (not (waits columns (last_of x)) || waits_above x) f.passes).0

-- columns without last cards hold none back
held-empty : (columns : List (List ℕ)) → list_any (λ column. has_last (last_of column)) columns ≡ false → held_in columns ≡ 0
held-empty columns no_last =
    ⊎_elim (λ none. omega (arith, none, held-few columns))
    (λ (i, u, last). absurd (true≢false (sym (list_any_at (λ column. has_last (last_of column)) columns i []
    (last_there columns i u last) (ap has_last last)) ∙ no_last)))
    (some_card columns)

-- no fewer knots are met than cards are held back
held-knots : (steps : ℕ) (columns : List (List ℕ)) → cards_in columns ≤ steps → held_in columns ≤ knots steps columns
unfolding knots
held-knots zero columns few = omega (arith, few, held-few columns)
held-knots (suc steps) columns few =
    let loose : List (List ℕ) = without_last_where (is_loose columns) columns in
    let tight : List (List ℕ) = without_last_where (is_in_knot columns) columns in
    let knot : ℕ = cond (list_any (λ column. has_last (last_of column)) columns) (1 + knots steps tight) 0 in
    cond_both (list_any (is_loose columns) columns) (count_by waits_above columns + knots steps loose) knot (λ n. held_in columns ≤ n)
    (λ some_loose. omega (
      arith,
      held-less (is_loose columns) columns,
      held-knots steps loose (omega (arith, few, shed-loose_one columns some_loose)),
    ))
    (λ none_loose. cond_both (list_any (λ column. has_last (last_of column)) columns) (1 + knots steps tight) 0 (λ n. held_in columns ≤ n)
    (λ some_last. omega (
      arith,
      held-less (is_in_knot columns) columns,
      tight-none columns columns none_loose,
      held-knots steps tight (omega (arith, few, shed_knot columns some_last)),
    ))
    (λ none_last. omega (arith, held-empty columns none_last)))

-- the knot bound is nowhere less than the plain bound
pub knots_no_less : KnotBoundIsNoLess
unfolding bound knot_bound knot_count
knots_no_less b = omega (arith, held-knots (cards_in b.columns) b.columns (omega arith))
