-- Which last cards wait for a card beneath them, and which may leave at once.
use Rattle.std.proofs.Common.{◌≡◌, ◌≢◌, ℕ, ◌-◌, ◌/◌, ◌^◌, ◌<◌, Bool, true, false, cond, min, max, bit_and, bit_or, Option, Some, None, List, [], ◌∷◌, ◌++◌, length, get_or, set, refl, sym, ◌∙◌, ap, ⊎_elim, true≢false, append_assoc, arith}
use Rattle.std.specs.Prelude.{◌==◌, ◌&&◌, ◌||◌, not, nat_lt}
use Rattle.std.specs.Int.{bit_at}
use Rattle.std.specs.List.{list_any}
use Rattle.std.proofs.lemmas.Bool.{cases_eq, or_parts, eq-eqb}
use Rattle.std.proofs.lemmas.Bool.Decides.{nat_tests}
use Rattle.std.proofs.lemmas.List.{append-nil}
use Rattle.std.proofs.lemmas.List.Folds.{list_any-append, list_any_at}
use Rattle.std.proofs.lemmas.List.Sums.{sum_by-append, get_or-le-sum_by}
use Rattle.std.proofs.lemmas.Nat.Bits.{bit_at_and, bit_at_or, bit_at-lt, shr_and_one}
use Rattle.fc_cards.specs.Card.{rank, suit}
use Rattle.fc_position.specs.Board.{Board, last_of, front_of, count_in_column}
use Rattle.fc_position.specs.Position.{IsPosition}
use Rattle.fc_position.proofs.BoardLemmas.{front_last, last_counted, places_most}
use Rattle.fc_bound.specs.Bound.{is_lower, stands_in, is_above_lower}
use Rattle.fc_bound.specs.Clearing.{waits}
use Rattle.fc_bound.specs.declared.waiting_rows.Row.{Row}
use Rattle.fc_bound.specs.Rows.{AreWaiting, stands_among}
use Rattle.fc_bound.specs.inner.Rows.{AreLow, left_of, left_in, Mark, IsLeft, ends_in}
use Rattle.fc_bound.specs.Knots.{has_last, waits_in, waits_above, is_loose, ends_among}
use Rattle.fc_bound.proofs.AboveLemmas.{and-false, and-true, or-false, not_true, stands-counted, above-one, above-other, above-top}
use Rattle.fc_bound.proofs.BitLemmas.{is_one, either_bits, some_bit, no_bits}
use Rattle.fc_bound.proofs.HeldLemmas.{found}
use Rattle.fc_bound.proofs.LeftLemmas.{has_last_is, left_rest, left_at, left_stands, stands_inside, same_column, last_stands, at_ends, last_is, same_test}

-- whether a last card is held back is told by the columns as they were at first
pub above_rest : (u : ℕ) (cards rest : List ℕ) → stands_in rest u ≡ false → is_above_lower u (cards ++ rest) ≡ is_above_lower u cards
above_rest u cards [] none = ap (is_above_lower u) (append-nil cards)
above_rest u cards (d ∷ rest) none =
    let parts = or_parts (d == u) (stands_in rest u) none in
    let other : d ≢ u = λ e. true≢false (sym (eq-eqb d u e) ∙ parts.0) in
    ap (is_above_lower u) (sym (append_assoc cards (d ∷ []) rest)) ∙ above_rest u (cards ++ d ∷ []) rest parts.1
    ∙ above-other u d cards other

not_lower : (u : ℕ) → is_lower u u ≡ false
not_lower u = go (suit u) (rank u)
  where
    go : (s r : ℕ) → ((s == s) && nat_lt r r) ≡ false
    go s r = grind (arith, nat_tests)

pub above_waits : (x : List ℕ) (u : ℕ) → last_of x ≡ Some u → is_above_lower u x ≡ waits_above x
above_waits x u last =
    let whole = front_last x u last in
    ap (is_above_lower u) whole ∙ above-top u (front_of x)
    ∙ sym (ap (waits (x ∷ [])) last ∙ or-false (list_any (is_lower u) x) ∙ ap (list_any (is_lower u)) whole
    ∙ list_any-append (is_lower u) (front_of x) (u ∷ []) ∙ ap (λ t. list_any (is_lower u) (front_of x) || (t || false)) (not_lower u)
    ∙ or-false (list_any (is_lower u) (front_of x)))

pub held_left : (b : Board) (bits i u : ℕ) → IsPosition b → last_of (get_or (left_in bits b.columns) i []) ≡ Some u
    → list_any (is_above_lower u) b.columns ≡ waits_above (get_or (left_in bits b.columns) i [])
held_left b bits i u p last =
    let x : List ℕ = get_or b.columns i [] in
    let y : List ℕ = left_of bits x in
    let at : get_or (left_in bits b.columns) i [] ≡ y = left_at bits b.columns i in
    let ends : last_of y ≡ Some u = ap last_of (sym at) ∙ last in
    let r = left_rest bits x in
    let stands = left_stands b bits i u (last_stands (get_or (left_in bits b.columns) i []) u last) in
    let split = ap (count_in_column u) r.is ∙ sum_by-append (λ d. cond (d == u) 1 0) y r.rest in
    let none : stands_in r.rest u ≡ false = not_true (stands_in r.rest u) (λ again. omega (
      arith,
      split,
      stands-counted r.rest u again,
      last_counted y u ends,
      get_or-le-sum_by (count_in_column u) b.columns i [] (stands_inside b.columns i u stands),
      places_most b u p,
    )) in
    let here : is_above_lower u x ≡ waits_above y =
    ap (is_above_lower u) r.is ∙ above_rest u y r.rest none ∙ above_waits y u ends in
    same_test (list_any (is_above_lower u) b.columns) (waits_above (get_or (left_in bits b.columns) i []))
    (λ any.
    let f = found (is_above_lower u) b.columns any in
    let same = same_column b f.place i u p (above-one u (get_or b.columns f.place []) f.passes).stands stands in
    ap waits_above at ∙ sym here ∙ ap (λ k. is_above_lower u (get_or b.columns k [])) (sym same) ∙ f.passes)
    (λ above. list_any_at (is_above_lower u) b.columns i [] (stands_inside b.columns i u stands)
    (here ∙ ap waits_above (sym at) ∙ above))

-- some bit is set of a number that isn't zero
pub positive : (n : ℕ) → not (n == 0) ≡ true → 0 < n
positive n some = grind (arith, nat_tests)

pub not_zero : (n u : ℕ) → bit_at n u ≡ 1 → not (n == 0) ≡ true
not_zero n u set =
    ⊎_elim (λ e. absurd (no_bits n u e set)) (λ ne. let test : (n == 0) ≡ false = grind (arith, nat_tests) in ap not test) (cases_eq n 0)

-- some card is left where some bit is set
pub left_some : (b : Board) (rows : List Row) (held all lasts : ℕ) → IsLeft b rows held all lasts → all < 2 ^ 64
    → not (all == 0) ≡ list_any (λ column. has_last (last_of column)) (left_in all b.columns)
left_some b rows held all lasts left fits =
    let v : List (List ℕ) = left_in all b.columns in
    same_test (not (all == 0)) (list_any (λ column. has_last (last_of column)) v)
    (λ some.
    let pos : 0 < all = positive all some in
    let s = some_bit all pos fits in
    let f = found (λ column. stands_in column s.place) v (is_one (stands_among v s.place) (sym (left.stand s.place) ∙ s.set)) in
    list_any_at (λ column. has_last (last_of column)) v f.place [] f.inside (has_some (get_or v f.place []) s.place f.passes))
    (λ some_last.
    let f = found (λ column. has_last (last_of column)) v some_last in
    let u = last_is (last_of (get_or v f.place [])) f.passes in
    let set : bit_at all u.0 ≡ 1 = left.stand u.0 ∙ ap (λ t. cond t 1 0)
    (list_any_at (λ column. stands_in column u.0) v f.place [] f.inside (last_stands (get_or v f.place []) u.0 u.1)) in
    not_zero all u.0 set)
  where
    has_some : (x : List ℕ) (c : ℕ) → stands_in x c ≡ true → has_last (last_of x) ≡ true
    has_some [] c stands = absurd (true≢false (sym stands))
    has_some (d ∷ x) c stands =
        let more : nat_lt 0 (length (d ∷ x)) ≡ true = grind (arith, nat_tests) in has_last_is (d ∷ x) ∙ more

-- whether a last card waits for one beneath it
pub held_bit : (b : Board) (rows : List Row) (held all lasts i u : ℕ) → IsLeft b rows held all lasts
    → last_of (get_or (left_in all b.columns) i []) ≡ Some u
    → bit_at held u ≡ cond (waits_above (get_or (left_in all b.columns) i [])) 1 0
held_bit b rows held all lasts i u left last = left.above u ∙ ap (λ t. cond t 1 0) (held_left b all i u left.whole last)

pub bit_test : (n : ℕ) (t : Bool) → n ≡ cond t 1 0 → not (n == 0) ≡ t
bit_test n true is = ap (λ (m : ℕ). not (m == 0)) is
bit_test n false is = ap (λ (m : ℕ). not (m == 0)) is

-- whether a last card waits for a card of a column, by the bits of all that do
pub waits_now : (bits u : ℕ) (x y : List ℕ) → u < 52 → AreWaiting bits x → last_of y ≡ Some u → bit_at bits u ≡ cond (waits_in y x) 1 0
waits_now bits u x y below are last =
    are u below ∙ ap (λ t. cond t 1 0) (sym (ap (waits (x ∷ [])) last ∙ or-false (list_any (is_lower u) x)))

pub waits_bit : (bits u : ℕ) (x y : List ℕ) → u < 52 → AreWaiting bits x → last_of y ≡ Some u
    → not (bit_and (bits / 2 ^ u) 1 == 0) ≡ waits_in y x
waits_bit bits u x y below are last = bit_test _ (waits_in y x) (shr_and_one bits u ∙ waits_now bits u x y below are last)

-- the last cards that may leave at once
loose_end : (v : List (List ℕ)) (x : List ℕ) (o : Option ℕ) (bits : ℕ) → last_of x ≡ o
    → ((u : ℕ) → o ≡ Some u → bit_at bits u ≡ cond (not (waits v o) || waits_above x) 1 0)
    → ends_in bits o ≡ (is_loose v x && has_last (last_of x))
loose_end v x None bits last is =
    sym (ap (λ t. is_loose v x && t) (ap has_last last) ∙ and-false (is_loose v x))
loose_end v x (Some u) bits last is =
    let has : has_last (last_of x) ≡ true = ap has_last last in
    ap (λ (n : ℕ). n == 1) (is u refl) ∙ is_bit (not (waits v (Some u)) || waits_above x)
    ∙ ap (λ o. not (waits v o) || waits_above x) (sym last)
    ∙ ap (λ t. t && (not (waits v (last_of x)) || waits_above x)) (sym has)
    ∙ sym (ap (λ t. is_loose v x && t) has ∙ and-true (is_loose v x))
  where
    is_bit : (t : Bool) → (cond t 1 0 == 1) ≡ t
    is_bit true = refl
    is_bit false = refl

pub none_above : (n : ℕ) (t : Bool) → n < 2 → (n ≡ 1 → t ≡ true) → (t ≡ true → n ≡ 1) → 1 - n ≡ cond (not t) 1 0
none_above n true small one two = let e = two refl in omega (arith, e)
none_above n false small one two =
    ⊎_elim (λ e. absurd (true≢false (sym (one e)))) (λ ne. omega (arith, small, ne)) (cases_eq n 1)

pub loose_mark : (b : Board) (rows : List Row) (held all lasts lows : ℕ) → IsLeft b rows held all lasts → AreLow lows (left_in all b.columns)
    → Mark (bit_and lasts (bit_or held lows)) (left_in all b.columns) (is_loose (left_in all b.columns))
loose_mark b rows held all lasts lows left are = record {
  lasts = λ u set.
      let both = sym (bit_at_and lasts (bit_or held lows) u) ∙ set in
      is_one (ends_among (left_in all b.columns) u)
      (sym (left.ends u) ∙ first_one (bit_at lasts u) (bit_at (bit_or held lows) u) both (bit_at-lt lasts u));
  each = λ k inside.
      let v : List (List ℕ) = left_in all b.columns in
      let x : List ℕ = get_or v k [] in
      loose_end v x (last_of x) (bit_and lasts (bit_or held lows)) refl (λ u last.
      let ends = at_ends v k u last in
      let stands : stands_among v u ≡ true = list_any_at (λ column. stands_in column u) v k [] inside (last_stands x u last) in
      let low : bit_at lows u ≡ cond (not (waits v (last_of x))) 1 0 =
      are u stands ∙ ap (λ o. cond (not (waits v o)) 1 0) (sym last) in
      bit_at_and lasts (bit_or held lows) u
      ∙ ap (λ n. min n (bit_at (bit_or held lows) u)) (left.ends u ∙ ap (λ t. cond t 1 0) ends)
      ∙ ap (min 1) (bit_at_or held lows u ∙ ap (λ n. max n (bit_at lows u)) (held_bit b rows held all lasts k u left last)
      ∙ ap (max (cond (waits_above x) 1 0)) low
      ∙ either_bits (waits_above x) (not (waits v (last_of x))) (not (waits v (last_of x)) || waits_above x)
      (or_turned (not (waits v (last_of x))) (waits_above x)))
      ∙ min_bit (not (waits v (last_of x)) || waits_above x));
}
  where
    first_one : (m n : ℕ) → min m n ≡ 1 → m < 2 → m ≡ 1
    first_one m n one small = omega arith

    or_turned : (p q : Bool) → (p || q) ≡ (q || p)
    or_turned true true = refl
    or_turned true false = refl
    or_turned false true = refl
    or_turned false false = refl

    min_bit : (t : Bool) → ◌≡◌ {A = ℕ} (min 1 (cond t 1 0)) (cond t 1 0)
    min_bit true = refl
    min_bit false = refl
