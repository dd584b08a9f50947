-- What is left of columns: fronts of them, of which each card stands in one.
use Rattle.std.proofs.Common.{◌≡◌, ℕ, ◌+◌, ◌-◌, ◌<◌, ◌≤◌, zero, suc, Bool, true, false, cond, Option, Some, None, List, [], ◌∷◌, ◌++◌, length, get_or, set, take, refl, sym, ◌∙◌, ap, subst, ⊎_elim, true≢false, append_assoc, arith}
use Rattle.std.specs.Prelude.{◌==◌, ◌&&◌, nat_lt, sum_by}
use Rattle.std.specs.Int.{bit_at}
use Rattle.std.proofs.lemmas.Bool.{cases_eq, cases_lt, or_parts, or_cases, or_left, or_right, eqb-true, eq-eqb}
use Rattle.std.proofs.lemmas.Bool.Decides.{nat_tests}
use Rattle.std.proofs.lemmas.List.{get_or-map, get_or-set_same, get_or-set_other, get_or_past, length-set, length-map, ext_get_or, take_at}
use Rattle.std.proofs.lemmas.List.Folds.{list_any-append, list_any_at}
use Rattle.std.proofs.lemmas.List.Sums.{sum_by-cons, sum_by-append, get_or-le-sum_by}
use Rattle.std.proofs.lemmas.Option.{slice_get-get_or}
use Rattle.fc_position.specs.Board.{Board, last_of, front_of, count_in_column}
use Rattle.fc_position.specs.Position.{IsPosition}
use Rattle.fc_position.proofs.BoardLemmas.{front_last, places_most}
use Rattle.fc_bound.specs.Bound.{stands_in}
use Rattle.fc_bound.specs.Clearing.{without}
use Rattle.fc_bound.specs.Rows.{AreBits, stands_among}
use Rattle.fc_bound.specs.inner.Rows.{left_of, left_in, AreApart}
use Rattle.fc_bound.specs.Knots.{has_last, ends_with, without_last_where, ends_among}
use Rattle.fc_bound.proofs.AboveLemmas.{not_true, stands-counted}
use Rattle.fc_bound.proofs.HeldLemmas.{found}
use Rattle.fc_bound.proofs.ClearingLemmas.{last_there}

-- a column has a last card where it has a card
pub has_last_is : (cards : List ℕ) → has_last (last_of cards) ≡ nat_lt 0 (length cards)
has_last_is [] = grind (arith, nat_tests)
has_last_is (x ∷ cards) =
    let more : nat_lt 0 (length (x ∷ cards)) ≡ true = grind (arith, nat_tests) in
    ap has_last (slice_get-get_or (x ∷ cards) (length (x ∷ cards) - 1) 0 (omega arith)) ∙ sym more

-- columns of which those that pass a test have lost their last card
pub shed_all : (test : List ℕ → Bool) (columns now : List (List ℕ)) → length now ≡ length columns
    → ((k : ℕ) → k < length columns → get_or now k [] ≡ cond (test (get_or columns k [])) (front_of (get_or columns k [])) (get_or columns k []))
    → now ≡ without_last_where test columns
shed_all test [] [] long each = refl
shed_all test [] (n ∷ now) long each = absurd (omega (arith, long))
shed_all test (x ∷ columns) [] long each = absurd (omega (arith, long))
shed_all test (x ∷ columns) (n ∷ now) long each =
    let here = each 0 (omega arith) in
    let rest = shed_all test columns now (omega (arith, long)) (λ k inside. each (suc k) (omega (arith, inside))) in cc

-- the tests that agree on each column shed the same
pub shed_same : (s t : List ℕ → Bool) (columns : List (List ℕ))
    → ((k : ℕ) → k < length columns → s (get_or columns k []) ≡ (t (get_or columns k []) && has_last (last_of (get_or columns k []))))
    → without_last_where s columns ≡ without_last_where t columns
shed_same s t columns agree =
    shed_all t columns (without_last_where s columns) (length-map columns (λ column. cond (s column) (front_of column) column))
    (λ k inside. get_or-map (λ column. cond (s column) (front_of column) column) columns k [] [] inside
    ∙ ap (λ p. cond p (front_of (get_or columns k [])) (get_or columns k [])) (agree k inside) ∙ lost (get_or columns k []) (t (get_or columns k [])))
  where
    lost : (x : List ℕ) (p : Bool) → cond (p && has_last (last_of x)) (front_of x) x ≡ cond p (front_of x) x
    lost [] true = refl
    lost (c ∷ x) true =
        let has : has_last (last_of (c ∷ x)) ≡ true =
        let more : nat_lt 0 (length (c ∷ x)) ≡ true = grind (arith, nat_tests) in has_last_is (c ∷ x) ∙ more in
        ap (λ q. cond q (front_of (c ∷ x)) (c ∷ x)) has
    lost x false = refl

-- what is left of a column is a front of it
pub record Rest (bits : ℕ) (cards : List ℕ) : Type 0 where
  pub rest : List ℕ
  pub is : cards ≡ left_of bits cards ++ rest

pub left_rest : (bits : ℕ) (cards : List ℕ) → Rest bits cards
left_rest bits [] = record { rest = []; is = refl }
left_rest bits (c ∷ cards) =
    let later = left_rest bits cards in
    elim (bit_at bits c == 1) as (λ t. bit_at bits c == 1 ≡ t → Rest bits (c ∷ cards)) [
      | true ↦ λ e. record {
        rest = later.rest;
        is = ap (λ (xs : List ℕ). c ∷ xs) later.is ∙ sym (ap (λ t. cond t (c ∷ left_of bits cards) [] ++ later.rest) e);
      }
      | false ↦ λ e. record { rest = c ∷ cards; is = sym (ap (λ t. cond t (c ∷ left_of bits cards) [] ++ (c ∷ cards)) e) }
    ] refl

pub left_front : (bits : ℕ) (cards : List ℕ) → left_of bits cards ≡ take (length (left_of bits cards)) cards
left_front bits cards =
    let r = left_rest bits cards in
    sym (ap (take (length (left_of bits cards))) r.is ∙ take_at (left_of bits cards) r.rest (length (left_of bits cards)) refl)

-- its cards stand in the column, and their bits are set
pub stands_left : (bits : ℕ) (cards : List ℕ) (c : ℕ) → stands_in (left_of bits cards) c ≡ true
    → (stands_in cards c ≡ true) × (bit_at bits c ≡ 1)
stands_left bits [] c stands = absurd (true≢false (sym stands))
stands_left bits (d ∷ cards) c stands =
    elim (bit_at bits d == 1) as (λ t. (bit_at bits d == 1) ≡ t → stands_in (cond t (d ∷ left_of bits cards) []) c ≡ true
    → (stands_in (d ∷ cards) c ≡ true) × (bit_at bits c ≡ 1)) [
      | true ↦ λ set here. ⊎_elim
          (λ e. (or_left (d == c) (stands_in cards c) e, ap (bit_at bits) (sym (eqb-true d c e)) ∙ eqb-true (bit_at bits d) 1 set))
          (λ later. let both = stands_left bits cards c later in (or_right (d == c) (stands_in cards c) both.0, both.1))
          (or_cases (d == c) (stands_in (left_of bits cards) c) here)
      | false ↦ λ _ none. absurd (true≢false (sym none))
    ] refl stands

-- a column of what is left
pub left_at : (bits : ℕ) (columns : List (List ℕ)) (k : ℕ) → get_or (left_in bits columns) k [] ≡ left_of bits (get_or columns k [])
left_at bits [] k = refl
left_at bits (x ∷ columns) zero = refl
left_at bits (x ∷ columns) (suc k) = left_at bits columns k

-- bits without one of them
abbrev pub IsWithout : ℕ → ℕ → ℕ → Type 0
IsWithout bits u less = (c : ℕ) → bit_at less c ≡ cond (c == u) 0 (bit_at bits c)

pub same_bit : (bits u less c : ℕ) → IsWithout bits u less → (c ≡ u → ⊥) → bit_at less c ≡ bit_at bits c
same_bit bits u less c is other =
    let test : (c == u) ≡ false = grind (arith, nat_tests) in is c ∙ ap (λ t. cond t 0 (bit_at bits c)) test

pub no_bit : (bits u less : ℕ) → IsWithout bits u less → bit_at less u ≡ 0
no_bit bits u less is =
    let test : (u == u) ≡ true = grind (arith, nat_tests) in is u ∙ ap (λ t. cond t 0 (bit_at bits u)) test

-- a column that the card doesn't stand in stays
left_other : (bits u less : ℕ) (cards : List ℕ) → IsWithout bits u less → stands_in (left_of bits cards) u ≡ false
    → left_of less cards ≡ left_of bits cards
left_other bits u less [] is none = refl
left_other bits u less (c ∷ cards) is none =
    elim (bit_at bits c == 1) as (λ t. (bit_at bits c == 1) ≡ t → stands_in (cond t (c ∷ left_of bits cards) []) u ≡ false
    → left_of less (c ∷ cards) ≡ cond t (c ∷ left_of bits cards) []) [
      | true ↦ λ set none.
          let parts = or_parts (c == u) (stands_in (left_of bits cards) u) none in
          let other : c ≡ u → ⊥ = λ e. true≢false (sym (eq-eqb c u e) ∙ parts.0) in
          ap (λ n. cond (n == 1) (c ∷ left_of less cards) []) (same_bit bits u less c is other)
          ∙ ap (λ t. cond t (c ∷ left_of less cards) []) set
          ∙ ap (λ (xs : List ℕ). c ∷ xs) (left_other bits u less cards is parts.1)
      | false ↦ λ unset _. ap (λ t. cond t (c ∷ left_of less cards) []) (fewer c unset)
    ] refl none
  where
    fewer : (c : ℕ) → (bit_at bits c == 1) ≡ false → (bit_at less c == 1) ≡ false
    fewer c unset = ⊎_elim
        (λ e. ap (λ (n : ℕ). n == 1) (ap (bit_at less) e ∙ no_bit bits u less is))
        (λ ne. ap (λ (n : ℕ). n == 1) (same_bit bits u less c is ne) ∙ unset) (cases_eq c u)

-- a front all of whose bits are set, up to a card whose bit is not
left_stop : (bits u : ℕ) (front rest : List ℕ) → ((c : ℕ) → stands_in front c ≡ true → bit_at bits c ≡ 1) → bit_at bits u ≡ 0
    → left_of bits (front ++ u ∷ rest) ≡ front
left_stop bits u [] rest set unset = ap (λ (n : ℕ). cond (n == 1) (u ∷ left_of bits rest) []) unset
left_stop bits u (c ∷ front) rest set unset =
    let here : bit_at bits c ≡ 1 = set c (or_left (c == c) (stands_in front c) (eq-eqb c c refl)) in
    ap (λ (n : ℕ). cond (n == 1) (c ∷ left_of bits (front ++ u ∷ rest)) []) here
    ∙ ap (λ (xs : List ℕ). c ∷ xs)
    (left_stop bits u front rest (λ d stands. set d (or_right (c == d) (stands_in front d) stands)) unset)

-- the column that ends with the card loses it
left_taken : (bits u less : ℕ) (cards : List ℕ) → IsWithout bits u less → count_in_column u cards ≤ 1
    → last_of (left_of bits cards) ≡ Some u → left_of less cards ≡ front_of (left_of bits cards)
left_taken bits u less cards is once last =
    let y : List ℕ = left_of bits cards in
    let r = left_rest bits cards in
    let whole : y ≡ front_of y ++ u ∷ [] = front_last y u last in
    let split : cards ≡ front_of y ++ (u ∷ r.rest) =
    r.is ∙ ap (λ xs. xs ++ r.rest) whole ∙ append_assoc (front_of y) (u ∷ []) r.rest in
    let one : ◌≡◌ {A = ℕ} (cond (u == u) 1 0) 1 = grind (arith, nat_tests) in
    let count = ap (count_in_column u) split ∙ sum_by-append (λ x. cond (x == u) 1 0) (front_of y) (u ∷ r.rest) in
    let tail = sum_by-cons (λ x. cond (x == u) 1 0) u r.rest in
    ap (left_of less) split
    ∙ left_stop less u (front_of y) r.rest
    (λ c stands.
    let other : c ≡ u → ⊥ = λ e. omega (
      arith,
      once,
      count,
      tail,
      one,
      stands-counted (front_of y) u (ap (stands_in (front_of y)) (sym e) ∙ stands),
    ) in
    let here : stands_in y c ≡ true =
    ap (λ xs. stands_in xs c) whole ∙ list_any-append (λ d. d == c) (front_of y) (u ∷ [])
    ∙ or_left (stands_in (front_of y) c) (stands_in (u ∷ []) c) stands in
    same_bit bits u less c is other ∙ (stands_left bits cards c here).1)
    (no_bit bits u less is)

-- each card stands in one column at most
two_le : (f : List ℕ → ℕ) (xs : List (List ℕ)) (i k : ℕ) → i < k → k < length xs → f (get_or xs i []) + f (get_or xs k []) ≤ sum_by f xs
two_le f [] i k less inside = absurd (omega (arith, inside))
two_le f (x ∷ xs) i zero less inside = absurd (omega (arith, less))
two_le f (x ∷ xs) zero (suc k) less inside = omega (arith, sum_by-cons f x xs, get_or-le-sum_by f xs k [] (omega (arith, inside)))
two_le f (x ∷ xs) (suc i) (suc k) less inside = omega (arith, sum_by-cons f x xs, two_le f xs i k (omega (arith, less)) (omega (arith, inside)))

pub stands_inside : (columns : List (List ℕ)) (k c : ℕ) → stands_in (get_or columns k []) c ≡ true → k < length columns
stands_inside columns k c stands =
    ⊎_elim (λ lt. lt)
    (λ past. absurd (true≢false (sym stands ∙ ap (λ x. stands_in x c) (get_or_past columns k [] past))))
    (cases_lt k (length columns))

one_column : (b : Board) (i k c : ℕ) → IsPosition b → i < k → stands_in (get_or b.columns i []) c ≡ true
    → stands_in (get_or b.columns k []) c ≡ true → ⊥
one_column b i k c p less one two =
    omega (
      arith,
      two_le (count_in_column c) b.columns i k less (stands_inside b.columns k c two),
      stands-counted (get_or b.columns i []) c one,
      stands-counted (get_or b.columns k []) c two,
      places_most b c p,
    )

pub same_column : (b : Board) (i k c : ℕ) → IsPosition b → stands_in (get_or b.columns i []) c ≡ true
    → stands_in (get_or b.columns k []) c ≡ true → i ≡ k
same_column b i k c p one two =
    ⊎_elim (λ less. absurd (one_column b i k c p less one two))
    (λ more. ⊎_elim (λ less. absurd (one_column b k i c p less two one)) (λ most. omega (arith, more, most)) (cases_lt k i))
    (cases_lt i k)

-- the last card of a column stands in it
pub last_stands : (cards : List ℕ) (u : ℕ) → last_of cards ≡ Some u → stands_in cards u ≡ true
last_stands cards u last =
    ap (λ xs. stands_in xs u) (front_last cards u last) ∙ list_any-append (λ d. d == u) (front_of cards) (u ∷ [])
    ∙ or_right (stands_in (front_of cards) u) (stands_in (u ∷ []) u) (or_left (u == u) false (eq-eqb u u refl))

pub left_stands : (b : Board) (bits i u : ℕ) → stands_in (get_or (left_in bits b.columns) i []) u ≡ true
    → stands_in (get_or b.columns i []) u ≡ true
left_stands b bits i u stands =
    (stands_left bits (get_or b.columns i []) u (ap (λ x. stands_in x u) (sym (left_at bits b.columns i)) ∙ stands)).0

pub left_apart : (b : Board) (bits : ℕ) → IsPosition b → AreApart (left_in bits b.columns)
left_apart b bits p i k u one two =
    same_column b i k u p (left_stands b bits i u (last_stands (get_or (left_in bits b.columns) i []) u one))
    (left_stands b bits k u (last_stands (get_or (left_in bits b.columns) k []) u two))

-- a card that is the last of some column
pub last_is : (o : Option ℕ) → has_last o ≡ true → (u : ℕ) × (o ≡ Some u)
last_is None none = absurd (true≢false (sym none))
last_is (Some u) one = (u, refl)

pub ends_last : (u : ℕ) (o : Option ℕ) → ends_with u o ≡ true → o ≡ Some u
ends_last u None ends = absurd (true≢false (sym ends))
ends_last u (Some v) ends = ap Some (eqb-true v u ends)

pub last_ends : (u : ℕ) (o : Option ℕ) → o ≡ Some u → ends_with u o ≡ true
last_ends u o last = ap (ends_with u) last ∙ eq-eqb u u refl

pub record Ends (columns : List (List ℕ)) (u : ℕ) : Type 0 where
  pub place : ℕ
  pub inside : place < length columns
  pub last : last_of (get_or columns place []) ≡ Some u

pub ends_at : (columns : List (List ℕ)) (u : ℕ) → ends_among columns u ≡ true → Ends columns u
ends_at columns u ends =
    let f = found (λ column. ends_with u (last_of column)) columns ends in
    record { place = f.place; inside = f.inside; last = ends_last u (last_of (get_or columns f.place [])) f.passes }

pub at_ends : (columns : List (List ℕ)) (i u : ℕ) → last_of (get_or columns i []) ≡ Some u → ends_among columns u ≡ true
at_ends columns i u last =
    list_any_at (λ column. ends_with u (last_of column)) columns i [] (last_there columns i u last)
    (last_ends u (last_of (get_or columns i [])) last)

-- two tests that imply each other
pub same_test : (p q : Bool) → (p ≡ true → q ≡ true) → (q ≡ true → p ≡ true) → p ≡ q
same_test true q one two = sym (one refl)
same_test false true one two = two refl
same_test false false one two = refl

-- without a last card the columns are those with one card less
pub taken_without : (b : Board) (bits i u less : ℕ) → IsPosition b → IsWithout bits u less
    → last_of (get_or (left_in bits b.columns) i []) ≡ Some u → left_in less b.columns ≡ without (left_in bits b.columns) i
taken_without b bits i u less p is last =
    let v : List (List ℕ) = left_in bits b.columns in
    let lost : List ℕ = front_of (get_or v i []) in
    let long : length (left_in less b.columns) ≡ length (set v i lost) =
    length-map b.columns (left_of less) ∙ sym (length-set v i lost ∙ length-map b.columns (left_of bits)) in
    ext_get_or [] (left_in less b.columns) (set v i lost) long (λ k inside. ⊎_elim
    (λ e. ap (λ j. get_or (left_in less b.columns) j []) e ∙ left_at less b.columns i
    ∙ left_taken bits u less (get_or b.columns i []) is (once i) (ap last_of (sym (left_at bits b.columns i)) ∙ last)
    ∙ ap front_of (sym (left_at bits b.columns i))
    ∙ sym (ap (λ j. get_or (set v i lost) j []) e ∙ get_or-set_same v i lost [] (last_there v i u last)))
    (λ ne. left_at less b.columns k
    ∙ left_other bits u less (get_or b.columns k []) is (not_true (stands_in (left_of bits (get_or b.columns k [])) u) (λ stands.
    ne (same_column b k i u p (stands_left bits (get_or b.columns k []) u stands).0
    (left_stands b bits i u (last_stands (get_or v i []) u last)))))
    ∙ sym (get_or-set_other v i k lost [] ne ∙ left_at bits b.columns k))
    (cases_eq k i))
  where
    once : (i : ℕ) → count_in_column u (get_or b.columns i []) ≤ 1
    once i = ⊎_elim
        (λ inside. omega (arith, get_or-le-sum_by (count_in_column u) b.columns i [] inside, places_most b u p))
        (λ past. subst (λ cards. count_in_column u cards ≤ 1) (sym (get_or_past b.columns i [] past)) (omega arith))
        (cases_lt i (length b.columns))

-- where all cards are left, the columns are as they were
pub left_whole : (bits : ℕ) (columns : List (List ℕ)) → AreBits bits (stands_among columns) → left_in bits columns ≡ columns
left_whole bits columns are =
    ext_get_or [] (left_in bits columns) columns (length-map columns (left_of bits))
    (λ k inside. left_at bits columns k ∙ whole (get_or columns k []) (λ c stands.
    are c ∙ ap (λ t. cond t 1 0) (list_any_at (λ column. stands_in column c) columns k [] (omega (arith, inside, length-map columns (left_of bits))) stands)))
  where
    whole : (cards : List ℕ) → ((c : ℕ) → stands_in cards c ≡ true → bit_at bits c ≡ 1) → left_of bits cards ≡ cards
    whole [] set = refl
    whole (c ∷ cards) set =
        ap (λ (n : ℕ). cond (n == 1) (c ∷ left_of bits cards) []) (set c (or_left (c == c) (stands_in cards c) (eq-eqb c c refl)))
        ∙ ap (λ (xs : List ℕ). c ∷ xs) (whole cards (λ d stands. set d (or_right (c == d) (stands_in cards d) stands)))
