-- What is left once a last card is taken out.
use Rattle.std.proofs.Common.{◌≡◌, ℕ, ◌<◌, ◌≤◌, Bool, true, false, cond, max, Some, List, [], ◌∷◌, length, get_or, set, refl, sym, ◌∙◌, ap, subst, ⊎_elim, true≢false, arith}
use Rattle.std.specs.Prelude.{◌==◌, ◌&&◌, ◌||◌, not}
use Rattle.std.specs.Int.{bit_at}
use Rattle.std.proofs.lemmas.Bool.{cases_eq, cases_lt, and_parts, or_cases, or_left, or_right, eqb-true, eq-eqb}
use Rattle.std.proofs.lemmas.Bool.Decides.{nat_tests}
use Rattle.std.proofs.lemmas.List.{get_or-set_same, get_or-set_other, get_or_past}
use Rattle.std.proofs.lemmas.List.Sums.{sum_by-cons, sum_by-append, get_or-le-sum_by}
use Rattle.fc_position.specs.Board.{Board, last_of, front_of, count_in_column}
use Rattle.fc_position.specs.Position.{IsPosition}
use Rattle.fc_position.proofs.BoardLemmas.{front_last, places_most}
use Rattle.fc_bound.specs.Bound.{stands_in}
use Rattle.fc_bound.specs.Clearing.{without}
use Rattle.fc_bound.specs.declared.waiting_rows.Row.{Row}
use Rattle.fc_bound.specs.Rows.{AreBits, IsRow, stands_among, no_row}
use Rattle.fc_bound.specs.inner.Rows.{left_of, left_in, IsLeft, AreApart}
use Rattle.fc_bound.specs.Knots.{ends_with, ends_among}
use Rattle.fc_bound.proofs.AboveLemmas.{not_true, stands-counted, stands-other}
use Rattle.fc_bound.proofs.BitLemmas.{either_bits}
use Rattle.fc_bound.proofs.HeldLemmas.{found, any-set}
use Rattle.fc_bound.proofs.ClearingLemmas.{last_there}
use Rattle.fc_bound.proofs.LeftLemmas.{left_rest, left_front, left_at, left_stands, left_apart, IsWithout, same_bit, no_bit, stands_inside, same_column, last_stands, ends_last, last_ends, ends_at, at_ends, same_test, taken_without}

-- which cards stand among the columns without a last card
pub taken_stands : (v : List (List ℕ)) (i u c : ℕ) → last_of (get_or v i []) ≡ Some u → (c ≡ u → ⊥)
    → stands_among (without v i) c ≡ stands_among v c
taken_stands v i u c last other =
    any-set (λ column. stands_in column c) v i (front_of (get_or v i []))
    (sym (stands-other (front_of (get_or v i [])) u c (λ e. other (sym e))) ∙ ap (λ x. stands_in x c) (sym (front_last (get_or v i []) u last)))

pub front_once : (x : List ℕ) (u : ℕ) → last_of x ≡ Some u → count_in_column u x ≤ 1 → stands_in (front_of x) u ≡ false
front_once x u last once =
    not_true (stands_in (front_of x) u) (λ stands.
    let one : ◌≡◌ {A = ℕ} (cond (u == u) 1 0) 1 = grind (arith, nat_tests) in
    let whole = ap (count_in_column u) (front_last x u last) ∙ sum_by-append (λ d. cond (d == u) 1 0) (front_of x) (u ∷ []) in
    let tail = sum_by-cons (λ d. cond (d == u) 1 0) u [] in
    omega (arith, once, whole, tail, one, stands-counted (front_of x) u stands))

left_once : (b : Board) (bits i c : ℕ) → IsPosition b → count_in_column c (get_or (left_in bits b.columns) i []) ≤ 1
left_once b bits i c p =
    let r = left_rest bits (get_or b.columns i []) in
    let split = ap (count_in_column c) r.is ∙ sum_by-append (λ d. cond (d == c) 1 0) (left_of bits (get_or b.columns i [])) r.rest in
    let same = ap (count_in_column c) (left_at bits b.columns i) in
    ⊎_elim
    (λ inside. omega (arith, same, split, get_or-le-sum_by (count_in_column c) b.columns i [] inside, places_most b c p))
    (λ past. let none = ap (count_in_column c) (get_or_past b.columns i [] past) in omega (arith, same, split, none))
    (cases_lt i (length b.columns))

taken_gone : (b : Board) (bits i u : ℕ) → IsPosition b → last_of (get_or (left_in bits b.columns) i []) ≡ Some u
    → stands_among (without (left_in bits b.columns) i) u ≡ false
taken_gone b bits i u p last =
    let v : List (List ℕ) = left_in bits b.columns in
    let lost : List ℕ = front_of (get_or v i []) in
    not_true (stands_among (set v i lost) u) (λ stands.
    let f = found (λ column. stands_in column u) (set v i lost) stands in
    ⊎_elim
    (λ e. true≢false (sym f.passes ∙ ap (λ j. stands_in (get_or (set v i lost) j []) u) e
    ∙ ap (λ x. stands_in x u) (get_or-set_same v i lost [] (last_there v i u last))
    ∙ front_once (get_or v i []) u last (left_once b bits i u p)))
    (λ ne. ne (same_column b f.place i u p
    (left_stands b bits f.place u (ap (λ x. stands_in x u) (sym (get_or-set_other v i f.place lost [] ne)) ∙ f.passes))
    (left_stands b bits i u (last_stands (get_or v i []) u last))))
    (cases_eq f.place i))

taken_all : (b : Board) (bits i u less : ℕ) → IsPosition b → IsWithout bits u less
    → last_of (get_or (left_in bits b.columns) i []) ≡ Some u → AreBits bits (stands_among (left_in bits b.columns))
    → AreBits less (stands_among (without (left_in bits b.columns) i))
taken_all b bits i u less p is last are c =
    ⊎_elim
    (λ e. ap (bit_at less) e ∙ no_bit bits u less is
    ∙ sym (ap (λ d. cond (stands_among (without (left_in bits b.columns) i) d) 1 0) e
    ∙ ap (λ t. cond t 1 0) (taken_gone b bits i u p last)))
    (λ ne. same_bit bits u less c is ne ∙ are c ∙ ap (λ t. cond t 1 0) (sym (taken_stands (left_in bits b.columns) i u c last ne)))
    (cases_eq c u)

-- which cards are the last of the columns without a last card: the others, and the one beneath it
cond_bits : (t p : Bool) → ◌≡◌ {A = ℕ} (cond t 0 (cond p 1 0)) (cond (not t && p) 1 0)
cond_bits true p = refl
cond_bits false p = refl

taken_last : (v : List (List ℕ)) (i u c : ℕ) → AreApart v → last_of (get_or v i []) ≡ Some u
    → ends_among (without v i) c ≡ ((not (c == u) && ends_among v c) || ends_with c (last_of (front_of (get_or v i []))))
taken_last v i u c apart last =
    let lost : List ℕ = front_of (get_or v i []) in
    let there = last_there v i u last in
    same_test (ends_among (set v i lost) c) ((not (c == u) && ends_among v c) || ends_with c (last_of lost))
    (λ ends.
    let f = ends_at (set v i lost) c ends in
    ⊎_elim
    (λ e. or_right (not (c == u) && ends_among v c) (ends_with c (last_of lost)) (last_ends c (last_of lost)
    (ap last_of (sym (get_or-set_same v i lost [] there)) ∙ ap (λ j. last_of (get_or (set v i lost) j [])) (sym e) ∙ f.last)))
    (λ ne.
    let here : last_of (get_or v f.place []) ≡ Some c = ap last_of (sym (get_or-set_other v i f.place lost [] ne)) ∙ f.last in
    let other : (c == u) ≡ false = not_true (c == u) (λ e.
    ne (apart f.place i u (here ∙ ap Some (eqb-true c u e)) last)) in
    or_left (not (c == u) && ends_among v c) (ends_with c (last_of lost))
    (ap (λ t. not t && ends_among v c) other ∙ at_ends v f.place c here))
    (cases_eq f.place i))
    (λ either. ⊎_elim
    (λ both.
    let parts = and_parts (not (c == u)) (ends_among v c) both in
    let f = ends_at v c parts.1 in
    let ne : f.place ≡ i → ⊥ = λ e.
    let same : Some c ≡ Some u = sym f.last ∙ ap (λ j. last_of (get_or v j [])) e ∙ last in
    let one : c ≡ u = cc in
    true≢false (sym parts.0 ∙ ap not (eq-eqb c u one)) in
    at_ends (set v i lost) f.place c (ap last_of (get_or-set_other v i f.place lost [] ne) ∙ f.last))
    (λ front. at_ends (set v i lost) i c (ap last_of (get_or-set_same v i lost [] there) ∙ ends_last c (last_of lost) front))
    (or_cases (not (c == u) && ends_among v c) (ends_with c (last_of lost)) either))

taken_lasts : (v : List (List ℕ)) (i u lasts beneath new : ℕ) → AreApart v → last_of (get_or v i []) ≡ Some u
    → AreBits lasts (ends_among v) → AreBits beneath (λ c. ends_with c (last_of (front_of (get_or v i []))))
    → ((c : ℕ) → bit_at new c ≡ max (cond (c == u) 0 (bit_at lasts c)) (bit_at beneath c)) → AreBits new (ends_among (without v i))
taken_lasts v i u lasts beneath new apart last are under is c =
    let front : Bool = ends_with c (last_of (front_of (get_or v i []))) in
    is c ∙ ap (λ n. max (cond (c == u) 0 n) (bit_at beneath c)) (are c) ∙ ap (max (cond (c == u) 0 (cond (ends_among v c) 1 0))) (under c)
    ∙ ap (λ n. max n (cond front 1 0)) (cond_bits (c == u) (ends_among v c))
    ∙ either_bits (not (c == u) && ends_among v c) front (ends_among (without v i) c) (taken_last v i u c apart last)

-- the row of a last card
pub row_left : (b : Board) (rows : List Row) (held all lasts i u : ℕ) → IsLeft b rows held all lasts
    → last_of (get_or (left_in all b.columns) i []) ≡ Some u → IsRow (get_or rows u no_row) (get_or (left_in all b.columns) i [])
row_left b rows held all lasts i u left last =
    let is = left_at all b.columns i ∙ left_front all (get_or b.columns i []) in
    subst (IsRow (get_or rows u no_row)) (sym is)
    (left.each i (length (left_of all (get_or b.columns i []))) u (ap last_of (sym is) ∙ last))

-- one card less is left
pub left_less : (b : Board) (rows : List Row) (held all lasts u less new : ℕ) → IsLeft b rows held all lasts
    → ends_among (left_in all b.columns) u ≡ true → IsWithout all u less
    → ((c : ℕ) → bit_at new c ≡ max (cond (c == u) 0 (bit_at lasts c)) (bit_at (get_or rows u no_row).beneath c))
    → IsLeft b rows held less new
left_less b rows held all lasts u less new left ends is more =
    let v : List (List ℕ) = left_in all b.columns in
    let f = ends_at v u ends in
    let after : left_in less b.columns ≡ without v f.place = taken_without b all f.place u less left.whole is f.last in
    record {
      whole = left.whole;
      long = left.long;
      each = left.each;
      above = left.above;
      stand = subst (λ w. AreBits less (stands_among w)) (sym after) (taken_all b all f.place u less left.whole is f.last left.stand);
      ends = subst (λ w. AreBits new (ends_among w)) (sym after)
          (taken_lasts v f.place u lasts (get_or rows u no_row).beneath new (left_apart b all left.whole) f.last left.ends
          (row_left b rows held all lasts f.place u left f.last).beneath more);
    }

-- a last card is a card
pub left_card : (b : Board) (bits u : ℕ) → IsPosition b → ends_among (left_in bits b.columns) u ≡ true → u < 52
left_card b bits u p ends =
    let f = ends_at (left_in bits b.columns) u ends in
    let stands = left_stands b bits f.place u (last_stands (get_or (left_in bits b.columns) f.place []) u f.last) in
    ⊎_elim (λ lt. lt)
    (λ past. absurd (omega (
      arith,
      p.no_other u past,
      stands-counted (get_or b.columns f.place []) u stands,
      get_or-le-sum_by (count_in_column u) b.columns f.place [] (stands_inside b.columns f.place u stands),
    )))
    (cases_lt u 52)
