-- The knot, found by going over the last cards from the least on.
use Rattle.std.proofs.Common.{◌≡◌, ℕ, ◌+◌, ◌*◌, ◌%◌, ◌^◌, ◌<◌, ◌≤◌, zero, suc, Bool, true, false, cond, bit_or, Option, Some, None, List, [], ◌∷◌, get_or, refl, sym, ◌∙◌, ap, ⊎_elim, true≢false, arith}
use Rattle.std.specs.Prelude.{◌==◌, ◌&&◌, ◌||◌}
use Rattle.std.specs.Int.{bit_at}
use Rattle.std.specs.List.{list_any, range_with_len}
use Rattle.std.proofs.lemmas.Bool.{cases_eq, and_parts, and_from, or_cases, eqb-true}
use Rattle.std.proofs.lemmas.Bool.Decides.{nat_tests}
use Rattle.std.proofs.lemmas.List.Folds.{list_any_at}
use Rattle.fc_position.specs.Board.{last_of}
use Rattle.fc_cards.specs.Card.{all_cards}
use Rattle.fc_bound.specs.Rows.{AreBits}
use Rattle.fc_bound.specs.inner.Rows.{AreApart, TellsKnot, Mark, ends_in}
use Rattle.fc_bound.specs.Knots.{has_last, ends_with, waits_in, waits_above, is_loose, are_knotted, first_with, first_knotted, second_knotted, ends_among, is_among, ring, is_in_knot}
use Rattle.fc_bound.proofs.AboveLemmas.{not_true, and-true}
use Rattle.fc_bound.proofs.BitLemmas.{is_one, one_bit_is, bits_or}
use Rattle.fc_bound.proofs.HeldLemmas.{found}
use Rattle.fc_bound.proofs.ClearingLemmas.{last_there}
use Rattle.fc_bound.proofs.KnotLemmas.{in-has}
use Rattle.fc_bound.proofs.KnotShed.{tight-above}
use Rattle.fc_bound.proofs.RingLemmas.{ring_ends, knot_ring, knot_two}
use Rattle.fc_bound.proofs.LeftLemmas.{ends_at, at_ends, ends_last, last_ends, last_is}

-- the first card that passes is that one
first_of : (test : ℕ → Bool) (u a n : ℕ) → a ≤ u → u < a + n → test u ≡ true → ((w : ℕ) → w < u → test w ≡ false)
    → first_with test (range_with_len a n) ≡ u
first_of test u a zero from below passes none = absurd (omega (arith, from, below))
first_of test u a (suc n) from below passes none =
    ⊎_elim
    (λ e. ap (λ t. cond t a (first_with test (range_with_len (a + 1) n))) (ap test e ∙ passes) ∙ e)
    (λ ne. ap (λ t. cond t a (first_with test (range_with_len (a + 1) n))) (none a (omega (arith, from, ne)))
    ∙ first_of test u (a + 1) n (omega (arith, from, ne)) (omega (arith, below)) passes none)
    (cases_eq a u)

first_is : (test : ℕ → Bool) (u : ℕ) → u < 52 → test u ≡ true → ((w : ℕ) → w < u → test w ≡ false) → first_with test all_cards ≡ u
unfolding all_cards
first_is test u below passes none = first_of_all 52 u refl test below passes none
  where
    first_of_all : (n u : ℕ) → n ≡ 52 → (test : ℕ → Bool) → u < 52 → test u ≡ true → ((w : ℕ) → w < u → test w ≡ false)
        → first_with test (range_with_len 0 n) ≡ u
    first_of_all n u is test below passes none = first_of test u 0 n (omega arith) (omega (arith, is, below)) passes none

no_first : (test : ℕ → Bool) (cards : List ℕ) → ((w : ℕ) → test w ≡ false) → first_with test cards ≡ 52
no_first test [] none = refl
no_first test (c ∷ cards) none = ap (λ t. cond t c (first_with test cards)) (none c) ∙ no_first test cards none

-- knotted columns have last cards, and are knotted both ways
knotted_back : (a b : List ℕ) → are_knotted a b ≡ true → are_knotted b a ≡ true
knotted_back a b both =
    let parts = and_parts (waits_in a b) (waits_in b a) both in and_from (waits_in b a) (waits_in a b) parts.1 parts.0

pub record KnottedAt (columns : List (List ℕ)) (u : ℕ) : Type 0 where
  pub one : ℕ
  pub two : ℕ
  pub partner : ℕ
  pub first : last_of (get_or columns one []) ≡ Some u
  pub second : last_of (get_or columns two []) ≡ Some partner
  pub knotted : are_knotted (get_or columns one []) (get_or columns two []) ≡ true

-- what passes the test by which the first one is found
abbrev is_first : List (List ℕ) → ℕ → Bool
is_first columns u = list_any (λ column. list_any (are_knotted column) columns && ends_with u (last_of column)) columns

first_at : (columns : List (List ℕ)) (u : ℕ) → is_first columns u ≡ true → KnottedAt columns u
first_at columns u passes =
    let f = found (λ column. list_any (are_knotted column) columns && ends_with u (last_of column)) columns passes in
    let x : List ℕ = get_or columns f.place [] in
    let parts = and_parts (list_any (are_knotted x) columns) (ends_with u (last_of x)) f.passes in
    let g = found (are_knotted x) columns parts.0 in
    let y : List ℕ = get_or columns g.place [] in
    let there = and_parts (waits_in x y) (waits_in y x) g.passes in
    let v = last_is (last_of y) (in-has y (last_of x) there.0) in
    record {
      one = f.place;
      two = g.place;
      partner = v.0;
      first = ends_last u (last_of x) parts.1;
      second = v.1;
      knotted = g.passes;
    }

at_first : (columns : List (List ℕ)) (i j u v : ℕ) → last_of (get_or columns i []) ≡ Some u → last_of (get_or columns j []) ≡ Some v
    → are_knotted (get_or columns i []) (get_or columns j []) ≡ true → is_first columns u ≡ true
at_first columns i j u v one two knotted =
    let x : List ℕ = get_or columns i [] in
    list_any_at (λ column. list_any (are_knotted column) columns && ends_with u (last_of column)) columns i [] (last_there columns i u one)
    (and_from (list_any (are_knotted x) columns) (ends_with u (last_of x))
    (list_any_at (are_knotted x) columns j [] (last_there columns j v two) knotted) (last_ends u (last_of x) one))

-- the same of the second one
abbrev is_second : List (List ℕ) → ℕ → ℕ → Bool
is_second columns u v = list_any (λ column. list_any (λ other. ends_with u (last_of other) && are_knotted other column) columns
    && ends_with v (last_of column)) columns

second_at : (columns : List (List ℕ)) (u v : ℕ) → is_second columns u v ≡ true → TellsKnot columns u v false → ⊥
second_at columns u v passes none =
    let f = found (λ column. list_any (λ other. ends_with u (last_of other) && are_knotted other column) columns && ends_with v (last_of column)) columns passes in
    let y : List ℕ = get_or columns f.place [] in
    let parts = and_parts (list_any (λ other. ends_with u (last_of other) && are_knotted other y) columns) (ends_with v (last_of y)) f.passes in
    let g = found (λ other. ends_with u (last_of other) && are_knotted other y) columns parts.0 in
    let x : List ℕ = get_or columns g.place [] in
    let both = and_parts (ends_with u (last_of x)) (are_knotted x y) g.passes in
    true≢false (sym both.1 ∙ none g.place f.place (ends_last u (last_of x) both.0) (ends_last v (last_of y) parts.1))

at_second : (columns : List (List ℕ)) (i j u v : ℕ) → last_of (get_or columns i []) ≡ Some u → last_of (get_or columns j []) ≡ Some v
    → are_knotted (get_or columns i []) (get_or columns j []) ≡ true → is_second columns u v ≡ true
at_second columns i j u v one two knotted =
    let x : List ℕ = get_or columns i [] in
    let y : List ℕ = get_or columns j [] in
    list_any_at (λ column. list_any (λ other. ends_with u (last_of other) && are_knotted other column) columns && ends_with v (last_of column))
    columns j [] (last_there columns j v two)
    (and_from (list_any (λ other. ends_with u (last_of other) && are_knotted other y) columns) (ends_with v (last_of y))
    (list_any_at (λ other. ends_with u (last_of other) && are_knotted other y) columns i [] (last_there columns i u one)
    (and_from (ends_with u (last_of x)) (are_knotted x y) (last_ends u (last_of x) one) knotted)) (last_ends v (last_of y) two))

-- the other way round, the same are knotted
pub knotted_turned : (columns : List (List ℕ)) (u v : ℕ) → TellsKnot columns u v false → TellsKnot columns v u false
knotted_turned columns u v none i j one two =
    not_true (are_knotted (get_or columns i []) (get_or columns j [])) (λ both.
    true≢false (sym (knotted_back (get_or columns i []) (get_or columns j []) both) ∙ none j i two one))

-- where no card may leave at once, none is knotted with itself
not_itself : (columns : List (List ℕ)) (u : ℕ) → AreApart columns → list_any (is_loose columns) columns ≡ false → TellsKnot columns u u false
not_itself columns u apart tight i j one two =
    let x : List ℕ = get_or columns i [] in
    let free : is_loose columns x ≡ false = not_true (is_loose columns x) (λ loose.
    true≢false (sym (list_any_at (is_loose columns) columns i [] (last_there columns i u one) loose) ∙ tight)) in
    let same : get_or columns j [] ≡ x = ap (λ k. get_or columns k []) (apart j i u two one) in
    ap (are_knotted x) same ∙ ap (λ t. t && waits_above x) (tight-above columns x free)

-- a last card with which no other is knotted
abbrev pub IsAlone : List (List ℕ) → ℕ → Type 0
IsAlone columns u = (v : ℕ) → ends_among columns v ≡ true → TellsKnot columns u v false

not_first : (columns : List (List ℕ)) (u : ℕ) → IsAlone columns u → is_first columns u ≡ false
not_first columns u alone = not_true (is_first columns u) (λ passes.
    let k = first_at columns u passes in
    true≢false (sym k.knotted ∙ alone k.partner (at_ends columns k.two k.partner k.second) k.one k.two k.first k.second))

-- all last cards are alone but those that are greater
pub first_pair : (columns : List (List ℕ)) (u v : ℕ) → u < 52 → ends_among columns u ≡ true → ends_among columns v ≡ true
    → TellsKnot columns u v true → ((w : ℕ) → w < u → ends_among columns w ≡ true → IsAlone columns w) → first_knotted columns ≡ u
first_pair columns u v below one two knotted less =
    let i = ends_at columns u one in
    let j = ends_at columns v two in
    first_is (is_first columns) u below (at_first columns i.place j.place u v i.last j.last (knotted i.place j.place i.last j.last))
    (λ w lt. not_true (is_first columns w) (λ passes.
    let k = first_at columns w passes in
    true≢false (sym passes ∙ not_first columns w (less w lt (at_ends columns k.one w k.first)))))

pub second_pair : (columns : List (List ℕ)) (u v : ℕ) → v < 52 → ends_among columns u ≡ true → ends_among columns v ≡ true
    → TellsKnot columns u v true → ((w : ℕ) → w < v → ends_among columns w ≡ true → TellsKnot columns u w false)
    → first_knotted columns ≡ u → second_knotted columns ≡ v
second_pair columns u v below one two knotted less first =
    let i = ends_at columns u one in
    let j = ends_at columns v two in
    ap (λ n. first_with (is_second columns n) all_cards) first
    ∙ first_is (is_second columns u) v below (at_second columns i.place j.place u v i.last j.last (knotted i.place j.place i.last j.last))
    (λ w lt. not_true (is_second columns u w) (λ passes. second_at columns u w passes (λ a b last end.
    less w lt (at_ends columns b w end) a b last end)))

pub no_pair : (columns : List (List ℕ)) → ((w : ℕ) → ends_among columns w ≡ true → IsAlone columns w) → first_knotted columns ≡ 52
no_pair columns alone = no_first (is_first columns) all_cards (λ w. not_true (is_first columns w) (λ passes.
    let k = first_at columns w passes in
    true≢false (sym passes ∙ not_first columns w (alone w (at_ends columns k.one w k.first)))))

-- the two last cards mark the knot, and where no two are knotted, those of the ring do
abbrev pub OfTwo : ℕ → ℕ → ℕ → Type 0
OfTwo bits u v = (w : ℕ) → bit_at bits w ≡ cond ((w == u) || (w == v)) 1 0

of_two : (p q : Bool) → (cond (p || q) 1 0 == 1) ≡ (p || q)
of_two true q = refl
of_two false true = refl
of_two false false = refl

two_end : (bits u v : ℕ) (o : Option ℕ) → OfTwo bits u v → ends_in bits o ≡ ((ends_with u o || ends_with v o) && has_last o)
two_end bits u v None are = refl
two_end bits u v (Some w) are =
    ap (λ (n : ℕ). n == 1) (are w) ∙ of_two (w == u) (w == v) ∙ sym (and-true ((w == u) || (w == v)))

below_52 : (u : ℕ) → u < 52 → (u == 52) ≡ false
below_52 u below = grind (arith, nat_tests)

pub pair_marks : (columns : List (List ℕ)) (bits u v : ℕ) → u < 52 → ends_among columns u ≡ true → ends_among columns v ≡ true
    → OfTwo bits u v → first_knotted columns ≡ u → second_knotted columns ≡ v → Mark bits columns (is_in_knot columns)
pair_marks columns bits u v below one two are first second = record {
  lasts = λ w set. ⊎_elim
      (λ e. ap (ends_among columns) (eqb-true w u e) ∙ one)
      (λ e. ap (ends_among columns) (eqb-true w v e) ∙ two)
      (or_cases (w == u) (w == v) (is_one ((w == u) || (w == v)) (sym (are w) ∙ set)));
  each = λ k inside.
      let x : List ℕ = get_or columns k [] in
      let o : Option ℕ = last_of x in
      two_end bits u v o are
      ∙ ap (λ t. t && has_last o) (sym (knot_two columns x (ap (λ n. n == 52) first ∙ below_52 u below)
      ∙ ap (λ n. ends_with n o || ends_with (second_knotted columns) o) first ∙ ap (λ n. ends_with u o || ends_with n o) second));
}

set_end : (bits : ℕ) (set : ℕ → Bool) (o : Option ℕ) → AreBits bits set → ends_in bits o ≡ (is_among set o && has_last o)
set_end bits set None are = refl
set_end bits set (Some u) are = ap (λ (n : ℕ). n == 1) (are u) ∙ bit_is (set u) ∙ sym (and-true (set u))
  where
    bit_is : (t : Bool) → (cond t 1 0 == 1) ≡ t
    bit_is true = refl
    bit_is false = refl

pub ring_marks : (columns : List (List ℕ)) (bits : ℕ) → AreBits bits (ring columns) → first_knotted columns ≡ 52
    → Mark bits columns (is_in_knot columns)
ring_marks columns bits are none = record {
  lasts = λ u set. ring_ends columns u (is_one (ring columns u) (sym (are u) ∙ set));
  each = λ k inside.
      let x : List ℕ = get_or columns k [] in
      set_end bits (ring columns) (last_of x) are
      ∙ ap (λ t. t && has_last (last_of x)) (sym (knot_ring columns x (ap (λ (n : ℕ). n == 52) none)));
}

-- the others that have been gone over are alone, so a last card is knotted with none but those that are still to come
pub alone_but : (columns : List (List ℕ)) (u rest v : ℕ) → AreApart columns → list_any (is_loose columns) columns ≡ false
    → ((w : ℕ) → ends_among columns w ≡ true → (bit_at rest w ≡ 1 → ⊥) → (w ≡ u → ⊥) → IsAlone columns w)
    → ends_among columns u ≡ true → ends_among columns v ≡ true → (bit_at rest v ≡ 1 → TellsKnot columns u v false) → TellsKnot columns u v false
alone_but columns u rest v apart tight before ends there none =
    ⊎_elim
    (λ e i j one two. not_itself columns u apart tight i j one (two ∙ ap Some e))
    (λ ne. ⊎_elim (λ set. none set)
    (λ unset. knotted_turned columns v u (before v there unset ne u ends))
    (cases_eq (bit_at rest v) 1))
    (cases_eq v u)

eq_turned : (a b : ℕ) → (a == b) ≡ (b == a)
eq_turned a b =
    ⊎_elim (λ e. let one : (a == b) ≡ true = grind (arith, nat_tests) in let two : (b == a) ≡ true = grind (arith, nat_tests) in one ∙ sym two)
    (λ ne. let one : (a == b) ≡ false = grind (arith, nat_tests) in let two : (b == a) ≡ false = grind (arith, nat_tests) in one ∙ sym two)
    (cases_eq a b)

pub two_bits : (u v : ℕ) → u < 64 → v < 64 → OfTwo (bit_or (1 * 2 ^ u % 2 ^ 64) (1 * 2 ^ v % 2 ^ 64)) u v
two_bits u v one two =
    bits_or (1 * 2 ^ u % 2 ^ 64) (1 * 2 ^ v % 2 ^ 64) (λ w. u == w) (λ w. v == w) (λ w. (w == u) || (w == v))
    (λ w. one_bit_is u w one) (λ w. one_bit_is v w two)
    (λ w. ap (λ t. t || (w == v)) (eq_turned w u) ∙ ap (λ t. (u == w) || t) (eq_turned w v))
