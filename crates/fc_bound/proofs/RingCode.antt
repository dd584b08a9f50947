-- How the code finds a ring of last cards, going over them from the least on.
use Rattle.std.proofs.Common.{◌≡◌, ℕ, ◌+◌, ◌-◌, ◌^◌, ◌<◌, ◌≤◌, bit_and, w64, zero, suc, Bool, true, false, cond, Option, Some, List, [], get_or, refl, sym, ◌∙◌, ap, subst, ⊎_elim, true≢false, arith}
use Rattle.std.specs.Prelude.{◌==◌, ◌&&◌, not}
use Rattle.std.specs.Int.{bit_at, bit_not}
use Rattle.std.specs.List.{list_any, range_with_len}
use Rattle.std.proofs.lemmas.Bool.{and_parts, and_from, and_right, cases_eq, cases_lt, eqb-true}
use Rattle.std.proofs.lemmas.Bool.Decides.{nat_tests}
use Rattle.std.proofs.lemmas.List.Folds.{list_any_at}
use Rattle.std.proofs.lemmas.Nat.{and_le_l}
use Rattle.std.proofs.lemmas.Nat.Bits.{bit_at_and, bit_at_not, bit_at_above, bit_at-lt, bit_at-zero}
use Rattle.fc_cards.specs.Card.{all_cards}
use Rattle.fc_position.specs.Board.{Board, last_of}
use Rattle.fc_bound.specs.declared.waiting_rows.Row.{Row}
use Rattle.fc_bound.specs.Rows.{AreBits, IsRow, no_row}
use Rattle.fc_bound.specs.inner.Rows.{IsLeft, is_set, left_in}
use Rattle.fc_bound.specs.Knots.{waits_in, ends_among, is_among, waits_among, is_astray, is_ring, all_but, leave_out, leave_out_each, ring}
use Rattle.fc_bound.proofs.AboveLemmas.{not_true, and-true}
use Rattle.fc_bound.proofs.BitLemmas.{is_one, gone, some_bit, no_bits}
use Rattle.fc_bound.proofs.ClearingLemmas.{last_there}
use Rattle.fc_bound.proofs.HeldLemmas.{found}
use Rattle.fc_bound.proofs.LeftLemmas.{ends_at, at_ends, same_test}
use Rattle.fc_bound.proofs.LooseLemmas.{positive, not_zero, waits_now}
use Rattle.fc_bound.proofs.RingLemmas.{among_is}
use Rattle.fc_bound.proofs.ShedLemmas.{still, kept}
use Rattle.fc_bound.proofs.TakeLemmas.{left_card, row_left}

-- whether the one last card waits for a card of the other's column
abbrev pub WaitsIn : List (List ℕ) → ℕ → ℕ → Bool → Type 0
WaitsIn columns u v so = (i j : ℕ) → last_of (get_or columns i []) ≡ Some u → last_of (get_or columns j []) ≡ Some v
    → waits_in (get_or columns i []) (get_or columns j []) ≡ so

-- whether a last card waits for a card of a column that ends with one of these
abbrev pub WaitsAmong : List (List ℕ) → ℕ → ℕ → Bool → Type 0
WaitsAmong columns u bits so = (i : ℕ) → last_of (get_or columns i []) ≡ Some u → waits_among columns (is_set bits) (get_or columns i []) ≡ so

-- a last card is among these where its bit is set
set_among : (bits u : ℕ) (o : Option ℕ) → o ≡ Some u → bit_at bits u ≡ 1 → is_among (is_set bits) o ≡ true
set_among bits u o last set = ap (is_among (is_set bits)) last ∙ ap (λ (n : ℕ). n == 1) set

among_set : (bits u : ℕ) (o : Option ℕ) → o ≡ Some u → is_among (is_set bits) o ≡ true → bit_at bits u ≡ 1
among_set bits u o last among = eqb-true (bit_at bits u) 1 (ap (is_among (is_set bits)) (sym last) ∙ among)

-- a last card waits for one of a column that ends with one of these
pub waits_some : (columns : List (List ℕ)) (bits i j v : ℕ) → last_of (get_or columns j []) ≡ Some v → bit_at bits v ≡ 1
    → waits_in (get_or columns i []) (get_or columns j []) ≡ true → waits_among columns (is_set bits) (get_or columns i []) ≡ true
waits_some columns bits i j v last set waits =
    let x : List ℕ = get_or columns i [] in
    let y : List ℕ = get_or columns j [] in
    list_any_at (λ other. is_among (is_set bits) (last_of other) && waits_in x other) columns j [] (last_there columns j v last)
    (and_from (is_among (is_set bits) (last_of y)) (waits_in x y) (set_among bits v (last_of y) last set) waits)

pub waits_where : (columns : List (List ℕ)) (bits i : ℕ) → waits_among columns (is_set bits) (get_or columns i []) ≡ true
    → (j : ℕ) × (v : ℕ) × (last_of (get_or columns j []) ≡ Some v) × (bit_at bits v ≡ 1) × (waits_in (get_or columns i []) (get_or columns j []) ≡ true)
waits_where columns bits i some =
    let x : List ℕ = get_or columns i [] in
    let f = found (λ other. is_among (is_set bits) (last_of other) && waits_in x other) columns some in
    let y : List ℕ = get_or columns f.place [] in
    let both = and_parts (is_among (is_set bits) (last_of y)) (waits_in x y) f.passes in
    let (v, other) = among_is (is_set bits) (last_of y) both.0 in
    (f.place, v, other, among_set bits v (last_of y) other both.0, both.1)

-- which last cards wait for a card of its column is told by a last card's row
pub row_tells : (b : Board) (rows : List Row) (held all lasts : ℕ) (s : List (List ℕ)) (u v i j : ℕ) → IsLeft b rows held all lasts
    → left_in all b.columns ≡ s → last_of (get_or s i []) ≡ Some u → last_of (get_or s j []) ≡ Some v
    → bit_at (get_or rows v no_row).waiting u ≡ cond (waits_in (get_or s i []) (get_or s j [])) 1 0
row_tells b rows held all lasts s u v i j left is one two =
    let below = left_card b all u left.whole (ap (λ w. ends_among w u) is ∙ at_ends s i u one) in
    let second : IsRow (get_or rows v no_row) (get_or s j []) =
    subst (λ w. IsRow (get_or rows v no_row) (get_or w j [])) is
    (row_left b rows held all lasts j v left (ap (λ w. last_of (get_or w j [])) is ∙ two)) in
    waits_now (get_or rows v no_row).waiting u (get_or s j []) (get_or s i []) below second.waiting one

-- where one of these waits for none of them, they are no ring
pub no_ring : (columns : List (List ℕ)) (bits u : ℕ) → ends_among columns u ≡ true → bit_at bits u ≡ 1
    → WaitsAmong columns u bits false → is_ring columns (is_set bits) ≡ false
no_ring columns bits u ends set alone =
    let e = ends_at columns u ends in
    let x : List ℕ = get_or columns e.place [] in
    let astray : list_any (is_astray columns (is_set bits)) columns ≡ true =
    list_any_at (is_astray columns (is_set bits)) columns e.place [] e.inside
    (and_from (is_among (is_set bits) (last_of x)) (not (waits_among columns (is_set bits) x))
    (set_among bits u (last_of x) e.last set) (ap not (alone e.place e.last))) in
    and_right (list_any (λ column. is_among (is_set bits) (last_of column)) columns)
    (not (list_any (is_astray columns (is_set bits)) columns)) (ap not astray)

-- where each of these waits for one of them, they are a ring, if there is one
pub ring_if : (columns : List (List ℕ)) (bits : ℕ) → bits < 2 ^ 64 → ((w : ℕ) → bit_at bits w ≡ 1 → ends_among columns w ≡ true)
    → ((w : ℕ) → bit_at bits w ≡ 1 → WaitsAmong columns w bits true) → not (bits == 0) ≡ is_ring columns (is_set bits)
ring_if columns bits fits lasts each =
    let none : list_any (is_astray columns (is_set bits)) columns ≡ false =
    not_true (list_any (is_astray columns (is_set bits)) columns) (λ any.
    let f = found (is_astray columns (is_set bits)) columns any in
    let x : List ℕ = get_or columns f.place [] in
    let both = and_parts (is_among (is_set bits) (last_of x)) (not (waits_among columns (is_set bits) x)) f.passes in
    let (u, last) = among_is (is_set bits) (last_of x) both.0 in
    true≢false (sym both.1 ∙ ap not (each u (among_set bits u (last_of x) last both.0) f.place last))) in
    let some : not (bits == 0) ≡ list_any (λ column. is_among (is_set bits) (last_of column)) columns =
    same_test (not (bits == 0)) (list_any (λ column. is_among (is_set bits) (last_of column)) columns)
    (λ more.
    let s = some_bit bits (positive bits more) fits in
    let e = ends_at columns s.place (lasts s.place s.set) in
    list_any_at (λ column. is_among (is_set bits) (last_of column)) columns e.place [] e.inside
    (set_among bits s.place (last_of (get_or columns e.place [])) e.last s.set))
    (λ any.
    let f = found (λ column. is_among (is_set bits) (last_of column)) columns any in
    let (u, last) = among_is (is_set bits) (last_of (get_or columns f.place [])) f.passes in
    not_zero bits u (among_set bits u (last_of (get_or columns f.place [])) last f.passes)) in
    some ∙ sym (and-true (list_any (λ column. is_among (is_set bits) (last_of column)) columns))
    ∙ ap (λ t. list_any (λ column. is_among (is_set bits) (last_of column)) columns && not t) (sym none)

-- these are a ring where all of them are among those that wait for a card of a column that ends with one of them
pub ring_bits : (columns : List (List ℕ)) (bits waiting : ℕ) → bits < 2 ^ 64 → waiting < 2 ^ 64 → (bits ≡ 0 → ⊥)
    → ((w : ℕ) → bit_at bits w ≡ 1 → ends_among columns w ≡ true)
    → ((u i : ℕ) → last_of (get_or columns i []) ≡ Some u
    → bit_at waiting u ≡ cond (waits_among columns (is_set bits) (get_or columns i [])) 1 0)
    → (bit_and bits (bit_not w64 waiting) == 0) ≡ is_ring columns (is_set bits)
ring_bits columns bits waiting fits small some lasts tells =
    let astray : ℕ = bit_and bits (bit_not w64 waiting) in
    ⊎_elim
    (λ none.
    let test : (astray == 0) ≡ true = grind (arith, nat_tests) in
    let full : not (bits == 0) ≡ true = grind (arith, nat_tests) in
    test ∙ sym full ∙ ring_if columns bits fits lasts (λ w set i last.
    is_one (waits_among columns (is_set bits) (get_or columns i []))
    (sym (tells w i last) ∙ bit_kept bits waiting w fits small set (ap (λ n. bit_at n w) none ∙ bit_at-zero w))))
    (λ more.
    let test : (astray == 0) ≡ false = grind (arith, nat_tests) in
    let least = some_bit astray (omega (arith, more)) (omega (arith, and_le_l bits (bit_not w64 waiting), fits)) in
    let u : ℕ = least.place in
    let parts = bit_astray bits waiting u fits small least.set in
    test ∙ sym (no_ring columns bits u (lasts u parts.0) parts.0 (λ i last.
    not_true (waits_among columns (is_set bits) (get_or columns i [])) (λ waits.
    let one = tells u i last ∙ ap (λ t. cond t 1 0) waits in omega (arith, one, parts.1)))))
    (cases_eq astray 0)
  where
    below : (bits u : ℕ) → bits < 2 ^ 64 → bit_at bits u ≡ 1 → u < 64
    below bits u fits set = ⊎_elim (λ lt. lt) (λ past. let none = bit_at_above bits 64 u fits past in absurd (omega (arith, set, none))) (cases_lt u 64)

    bit_kept : (bits waiting u : ℕ) → bits < 2 ^ 64 → waiting < 2 ^ 64 → bit_at bits u ≡ 1 → bit_at (bit_and bits (bit_not w64 waiting)) u ≡ 0
        → bit_at waiting u ≡ 1
    bit_kept bits waiting u fits small set none =
        let both = bit_at_and bits (bit_not w64 waiting) u in
        let turned = bit_at_not w64 waiting u small (below bits u fits set) in
        let lt = bit_at-lt waiting u in
        omega (arith, set, none, both, turned, lt)

    bit_astray : (bits waiting u : ℕ) → bits < 2 ^ 64 → waiting < 2 ^ 64 → bit_at (bit_and bits (bit_not w64 waiting)) u ≡ 1
        → (bit_at bits u ≡ 1) × (bit_at waiting u ≡ 0)
    bit_astray bits waiting u fits small set =
        let both = bit_at_and bits (bit_not w64 waiting) u in
        let one = bit_at-lt bits u in
        let two = bit_at-lt (bit_not w64 waiting) u in
        let first : bit_at bits u ≡ 1 = omega (arith, set, both, one, two) in
        let turned = bit_at_not w64 waiting u small (below bits u fits first) in
        let lt = bit_at-lt waiting u in
        (first, omega (arith, set, both, turned, lt, one))

-- to leave out a card that isn't there changes nothing
left_none : (columns : List (List ℕ)) (set : ℕ → Bool) (u : ℕ) → set u ≡ false → leave_out columns u set ≡ set
left_none columns set u none =
    ap (λ (t : ℕ → Bool). cond (is_ring columns t) t set) (λ i c. same c i) ∙ either (is_ring columns set)
  where
    same : (c : ℕ) → (set c && not (c == u)) ≡ set c
    same c =
        ⊎_elim
        (λ e. ap (λ t. t && not (c == u)) (ap set e ∙ none) ∙ sym (ap set e ∙ none))
        (λ ne. let other : (c == u) ≡ false = grind (arith, nat_tests) in ap (λ t. set c && not t) other ∙ and-true (set c))
        (cases_eq c u)

    either : (t : Bool) → ◌≡◌ {A = ℕ → Bool} (cond t set set) set
    either true = refl
    either false = refl

left_skipped : (columns : List (List ℕ)) (m n a : ℕ) (set : ℕ → Bool) → ((w : ℕ) → a ≤ w → w < a + m → set w ≡ false)
    → leave_out_each columns (range_with_len a (m + n)) set ≡ leave_out_each columns (range_with_len (a + m) n) set
left_skipped columns zero n a set none =
    let count : zero + n ≡ n = omega arith in
    let from : a ≡ a + zero = omega arith in
    ap (λ k. leave_out_each columns (range_with_len a k) set) count ∙ ap (λ b. leave_out_each columns (range_with_len b n) set) from
left_skipped columns (suc m) n a set none =
    let count : suc m + n ≡ suc (m + n) = omega arith in
    let from : (a + 1) + m ≡ a + suc m = omega arith in
    ap (λ k. leave_out_each columns (range_with_len a k) set) count
    ∙ ap (leave_out_each columns (range_with_len (a + 1) (m + n))) (left_none columns set a (none a (omega arith) (omega arith)))
    ∙ left_skipped columns m n (a + 1) set (λ w after below. none w (omega (arith, after)) (omega (arith, below)))
    ∙ ap (λ b. leave_out_each columns (range_with_len b n) set) from

-- some of the last cards have been gone over, those before one number: these bits are left, and the ring is what is left when
-- the rest are left out
pub record LeftOut (columns : List (List ℕ)) (rest bits : ℕ) : Type 0 where
  pub from : ℕ
  pub count : ℕ
  pub whole : from + count ≡ 52
  pub set : ℕ → Bool
  pub are : AreBits bits set
  pub lasts : (w : ℕ) → set w ≡ true → ends_among columns w ≡ true
  pub after : (w : ℕ) → bit_at rest w ≡ 1 → (ends_among columns w ≡ true) × (from ≤ w)
  pub there : (w : ℕ) → ends_among columns w ≡ true → from ≤ w → bit_at rest w ≡ 1
  pub ends : leave_out_each columns (range_with_len from count) set ≡ ring columns

left_all : (columns : List (List ℕ)) (n : ℕ) → n ≡ 52 → leave_out_each columns (range_with_len 0 n) (ends_among columns) ≡ ring columns
unfolding ring all_cards
left_all columns n is = ap (λ k. leave_out_each columns (range_with_len 0 k) (ends_among columns)) is

left_first : (columns : List (List ℕ)) (bits n : ℕ) → n ≡ 52 → AreBits bits (ends_among columns) → LeftOut columns bits bits
left_first columns bits n is are = record {
  from = 0;
  count = n;
  whole = omega (arith, is);
  set = ends_among columns;
  are = are;
  lasts = λ w ends. ends;
  after = λ w set. (is_one (ends_among columns w) (sym (are w) ∙ set), omega arith);
  there = λ w ends _. are w ∙ ap (λ t. cond t 1 0) ends;
  ends = left_all columns n is;
}

pub left_start : (columns : List (List ℕ)) (bits : ℕ) → AreBits bits (ends_among columns) → LeftOut columns bits bits
left_start columns bits are = left_first columns bits 52 refl are

-- the bits of the set without a card
but_bit : (p q : Bool) (n : ℕ) → n ≡ cond p 1 0 → cond q 0 n ≡ cond (p && not q) 1 0
but_bit true true n is = refl
but_bit true false n is = is
but_bit false true n is = refl
but_bit false false n is = is

pub bits_set : (bits : ℕ) (set : ℕ → Bool) → AreBits bits set → is_set bits ≡ set
bits_set bits set are = λ i u. same u i
  where
    bit_is : (t : Bool) → (cond t 1 0 == 1) ≡ t
    bit_is true = refl
    bit_is false = refl

    same : (u : ℕ) → (bit_at bits u == 1) ≡ set u
    same u = ap (λ (n : ℕ). n == 1) (are u) ∙ bit_is (set u)

-- the next card, the least that is still to come
pub record Next (columns : List (List ℕ)) (rest less bits others u : ℕ) : Type 0 where
  pub over : LeftOut columns rest bits
  pub set : bit_at rest u ≡ 1
  pub least : (w : ℕ) → w < u → bit_at rest w ≡ 0
  pub below : u < 52
  pub removed : (d : ℕ) → bit_at less d ≡ cond (d == u) 0 (bit_at rest d)
  pub without : (d : ℕ) → bit_at others d ≡ cond (d == u) 0 (bit_at bits d)

next_bits : (columns : List (List ℕ)) (rest less bits others u : ℕ) (n : Next columns rest less bits others u)
    → AreBits others (all_but u n.over.set)
next_bits columns rest less bits others u n d =
    n.without d ∙ but_bit (n.over.set d) (d == u) (bit_at bits d) (n.over.are d)

next_ends : (columns : List (List ℕ)) (rest less bits others u : ℕ) (n : Next columns rest less bits others u)
    → leave_out_each columns (range_with_len (u + 1) (51 - u)) (leave_out columns u n.over.set) ≡ ring columns
next_ends columns rest less bits others u n =
    let set : ℕ → Bool = n.over.set in
    let from : ℕ = n.over.from in
    let low : from ≤ u = (n.over.after u n.set).1 in
    let count : (u - from) + suc (51 - u) ≡ n.over.count = omega (arith, low, n.over.whole, n.below) in
    let at : from + (u - from) ≡ u = omega (arith, low) in
    let none : (w : ℕ) → from ≤ w → w < from + (u - from) → set w ≡ false =
    λ w after before. not_true (set w) (λ is.
    absurd (omega (arith, n.over.there w (n.over.lasts w is) after, n.least w (omega (arith, before, at))))) in
    ap (λ b. leave_out_each columns (range_with_len b (suc (51 - u))) set) (sym at)
    ∙ sym (left_skipped columns (u - from) (suc (51 - u)) from set none)
    ∙ ap (λ k. leave_out_each columns (range_with_len from k) set) count ∙ n.over.ends

next_over : (columns : List (List ℕ)) (rest less bits others u now : ℕ) (set : ℕ → Bool) → Next columns rest less bits others u
    → AreBits now set → ((w : ℕ) → set w ≡ true → ends_among columns w ≡ true)
    → leave_out_each columns (range_with_len (u + 1) (51 - u)) set ≡ ring columns → LeftOut columns less now
next_over columns rest less bits others u now set n are lasts ends = record {
  from = u + 1;
  count = 51 - u;
  whole = omega (arith, n.below);
  set = set;
  are = are;
  lasts = lasts;
  after = λ w one.
      let before = still rest less u w n.removed one in
      ((n.over.after w before).0, later w one before);
  there = λ w ends past.
      kept rest less u w n.removed (λ e. omega (arith, e, past)) (n.over.there w ends (omega (arith, past, (n.over.after u n.set).1)));
  ends = ends;
}
  where
    later : (w : ℕ) → bit_at less w ≡ 1 → bit_at rest w ≡ 1 → u + 1 ≤ w
    later w one before =
        ⊎_elim
        (λ e. absurd (omega (arith, one, ap (bit_at less) e, gone rest less u n.removed)))
        (λ ne. ⊎_elim (λ lt. absurd (omega (arith, n.least w lt, before))) (λ le. omega (arith, le, ne)) (cases_lt w u))
        (cases_eq w u)

-- the card is left out where the others are a ring, and stays where they are none
pub next_out : (columns : List (List ℕ)) (rest less bits others u : ℕ) → Next columns rest less bits others u
    → is_ring columns (is_set others) ≡ true → LeftOut columns less others
next_out columns rest less bits others u n is =
    let set : ℕ → Bool = n.over.set in
    let are = next_bits columns rest less bits others u n in
    let left : is_ring columns (all_but u set) ≡ true = ap (is_ring columns) (sym (bits_set others (all_but u set) are)) ∙ is in
    next_over columns rest less bits others u others (all_but u set) n are
    (λ w both. n.over.lasts w (and_parts (set w) (not (w == u)) both).0)
    (ap (λ t. leave_out_each columns (range_with_len (u + 1) (51 - u)) (cond t (all_but u set) set)) (sym left)
    ∙ next_ends columns rest less bits others u n)

pub next_stays : (columns : List (List ℕ)) (rest less bits others u : ℕ) → Next columns rest less bits others u
    → is_ring columns (is_set others) ≡ false → LeftOut columns less bits
next_stays columns rest less bits others u n is =
    let set : ℕ → Bool = n.over.set in
    let are = next_bits columns rest less bits others u n in
    let left : is_ring columns (all_but u set) ≡ false = ap (is_ring columns) (sym (bits_set others (all_but u set) are)) ∙ is in
    next_over columns rest less bits others u bits set n n.over.are n.over.lasts
    (ap (λ t. leave_out_each columns (range_with_len (u + 1) (51 - u)) (cond t (all_but u set) set)) (sym left)
    ∙ next_ends columns rest less bits others u n)

-- what is left at the end is the ring
pub left_end : (columns : List (List ℕ)) (rest bits : ℕ) → LeftOut columns rest bits → rest ≡ 0 → AreBits bits (ring columns)
left_end columns rest bits over none = λ x. over.are x ∙ ap (λ (s : ℕ → Bool). cond (s x) 1 0) is
  where
    is : over.set ≡ ring columns
    is =
        let count : over.count + 0 ≡ over.count = omega arith in
        sym (left_skipped columns over.count 0 over.from over.set (λ w after _. not_true (over.set w) (λ here.
        no_bits rest w none (over.there w (over.lasts w here) after))))
        ∙ ap (λ k. leave_out_each columns (range_with_len over.from k) over.set) count ∙ over.ends
