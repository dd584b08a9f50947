-- The rows of cards that moved, over those of the others.
use Rattle.std.proofs.Common.{◌≡◌, ℕ, ◌+◌, ◌-◌, ◌<◌, ◌≤◌, Bool, true, false, cond, bit_and, Some, List, [], length, get_or, take, refl, sym, ◌∙◌, ap, subst, ⊎_elim, true≢false, arith}
use Rattle.std.specs.Prelude.{◌==◌, ◌&&◌, ◌||◌, not}
use Rattle.std.specs.Int.{bit_at}
use Rattle.std.specs.List.{list_any}
use Rattle.std.proofs.lemmas.Bool.{cases_lt, cases_Bool, eq-eqb}
use Rattle.std.proofs.lemmas.List.{get_or-take, length-take-le, take-take, take_all, take_more}
use Rattle.std.proofs.lemmas.List.Folds.{list_any_at}
use Rattle.std.proofs.lemmas.Nat.Bits.{bit_at_ones, bit_at-lt}
use Rattle.std.proofs.lemmas.Option.{slice_get-get_or}
use Rattle.fc_position.specs.Board.{Board, column, last_of}
use Rattle.fc_position.specs.Position.{IsPosition}
use Rattle.fc_bound.specs.Bound.{stands_in, is_above_lower}
use Rattle.fc_bound.specs.declared.waiting_rows.Row.{Row}
use Rattle.fc_bound.specs.Knots.{ends_with}
use Rattle.fc_bound.specs.Rows.{AreBits, AreRowsOf, IsRow, MoveAbove, no_row, stands_among}
use Rattle.fc_bound.specs.inner.Rows.{is_set, stands_above}
use Rattle.fc_bound.proofs.AboveLemmas.{and-false, and-true, above-one, contains-stands, stands-contains}
use Rattle.fc_bound.proofs.BitLemmas.{last_of-push, no_bits}
use Rattle.fc_bound.proofs.FamilyRows.{stands_below}
use Rattle.fc_bound.proofs.FillLemmas.{stands_take}
use Rattle.fc_bound.proofs.HeldLemmas.{found}
use Rattle.fc_bound.proofs.LeftLemmas.{last_stands, stands_inside}
use Rattle.fc_bound.proofs.TiedLemmas.{in_both}

pub taken_last : (xs : List ℕ) (i : ℕ) → i < length xs → last_of (take (i + 1) xs) ≡ Some (get_or xs i 0)
taken_last xs i inside = ap last_of (take_more xs i 0 inside) ∙ last_of-push (take i xs) (get_or xs i 0)

-- what is read of a list past its end doesn't count inside
pub read_same : (xs : List ℕ) (i d e : ℕ) → i < length xs → get_or xs i d ≡ get_or xs i e
read_same xs i d e inside =
    let same : Some (get_or xs i d) ≡ Some (get_or xs i e) = sym (slice_get-get_or xs i d inside) ∙ slice_get-get_or xs i e inside in
    cc

-- of a column's first cards, the last of which hasn't moved, none has
pub first_still : (bits front : ℕ) (cards : List ℕ) → front ≤ length cards → (0 < front → bit_at bits (get_or cards (front - 1) 0) ≡ 0)
    → MoveAbove bits cards → (c : ℕ) → stands_in (take front cards) c ≡ true → bit_at bits c ≡ 0
first_still bits front cards inside last above c stands =
    ⊎_elim
    (λ some.
    let e : front - 1 + 1 ≡ front = omega (arith, some) in
    above front (get_or cards (front - 1) 0) c (ap (λ n. last_of (take n cards)) (sym e) ∙ taken_last cards (front - 1) (omega (arith, inside, some)))
    (last some) stands)
    (λ none.
    let e : front ≡ 0 = omega (arith, none) in
    absurd (true≢false (sym stands ∙ ap (λ n. stands_in (take n cards) c) e)))
    (cases_lt 0 front)

-- a card that stands above the first ones has moved
pub later_moved : (bits front : ℕ) (cards : List ℕ) → front ≤ length cards
    → ((k : ℕ) → front ≤ k → k < length cards → bit_at bits (get_or cards k 0) ≡ 1)
    → (c : ℕ) → stands_in cards c ≡ true → stands_in (take front cards) c ≡ false → bit_at bits c ≡ 1
later_moved bits front cards most moved c stands off =
    let (k, inside, is) = stands-contains cards c stands in
    ⊎_elim
    (λ few. absurd (true≢false (sym (contains-stands (take front cards) c
    (k, omega (arith, few, length-take-le front cards most), get_or-take front cards k c few ∙ is)) ∙ off)))
    (λ many. ap (bit_at bits) (sym is ∙ read_same cards k c 0 inside) ∙ moved k many inside)
    (cases_lt k front)

-- so the cards above the first ones are those that moved
pub above_moved : (bits front : ℕ) (cards : List ℕ) → front ≤ length cards → (0 < front → bit_at bits (get_or cards (front - 1) 0) ≡ 0)
    → ((k : ℕ) → front ≤ k → k < length cards → bit_at bits (get_or cards k 0) ≡ 1) → MoveAbove bits cards
    → (c : ℕ) → stands_above front cards c ≡ (stands_in cards c && is_set bits c)
above_moved bits front cards most last moved above c =
    ⊎_elim
    (λ on.
    let same : not (stands_in (take front cards) c) ≡ is_set bits c = ⊎_elim
    (λ low. ap not low ∙ sym (ap (λ n. n == 1) (first_still bits front cards most last above c low)))
    (λ high. ap not high ∙ sym (eq-eqb (bit_at bits c) 1 (later_moved bits front cards most moved c on high)))
    (cases_Bool (stands_in (take front cards) c)) in
    ap (λ t. stands_in cards c && t) same)
    (λ off. ap (λ t. t && not (stands_in (take front cards) c)) off ∙ ap (λ t. t && is_set bits c) (sym off))
    (cases_Bool (stands_in cards c))

pub held_moved : (cards : List ℕ) (c : ℕ) (one other : Bool) → one ≡ (stands_in cards c && other)
    → (is_above_lower c cards && one) ≡ (is_above_lower c cards && other)
held_moved cards c one other same =
    ⊎_elim
    (λ on. ap (λ t. is_above_lower c cards && t) (same ∙ ap (λ t. t && other) (above-one c cards on).stands))
    (λ off. ap (λ t. t && one) off ∙ ap (λ t. t && other) (sym off))
    (cases_Bool (is_above_lower c cards))

-- the rows of a column's cards, where those are right that moved, and those of the others are as they were
pub rows_moved : (bits front : ℕ) (cards : List ℕ) (rows old : List Row) → front ≤ length cards
    → (0 < front → bit_at bits (get_or cards (front - 1) 0) ≡ 0) → MoveAbove bits cards → AreRowsOf bits cards old
    → ((h u : ℕ) → front < h → last_of (take h cards) ≡ Some u → IsRow (get_or rows u no_row) (take h cards))
    → ((c : ℕ) → stands_above front cards c ≡ false → get_or rows c no_row ≡ get_or old c no_row)
    → (h u : ℕ) → last_of (take h cards) ≡ Some u → IsRow (get_or rows u no_row) (take h cards)
rows_moved bits front cards rows old most last above each over others h u is =
    ⊎_elim (λ more. over h u more is)
    (λ few.
    let low : stands_in (take front cards) u ≡ true =
    stands_take h (take front cards) u (ap (λ x. stands_in x u) (take-take h front cards few) ∙ last_stands (take h cards) u is) in
    let off : stands_above front cards u ≡ false = ap (λ t. stands_in cards u && not t) low ∙ and-false (stands_in cards u) in
    subst (λ r. IsRow r (take h cards)) (sym (others u off)) (each h u is (first_still bits front cards most last above u low)))
    (cases_lt front h)

-- what passes one of two tests, and another one
pub both_more : (r p q m : Bool) → r ≡ (p || q) → (r && m) ≡ ((p && m) || (q && m))
both_more r p q m is = ap (λ t. t && m) is ∙ go p q m
  where
    go : (p q m : Bool) → ((p || q) && m) ≡ ((p && m) || (q && m))
    go true q m = sym (or_same m q)
      where
        or_same : (m q : Bool) → (m || (q && m)) ≡ m
        or_same true q = refl
        or_same false q = and-false q
    go false q m = refl

-- a card of a column is one of 52, so that its bit is among 64
pub in_column : (columns : List (List ℕ)) (i h u : ℕ) → last_of (take h (get_or columns i [])) ≡ Some u → stands_in (get_or columns i []) u ≡ true
in_column columns i h u last = stands_take h (get_or columns i []) u (last_stands (take h (get_or columns i [])) u last)

pub among_columns : (columns : List (List ℕ)) (i u : ℕ) → stands_in (get_or columns i []) u ≡ true → stands_among columns u ≡ true
among_columns columns i u stands = list_any_at (λ column. stands_in column u) columns i [] (stands_inside columns i u stands) stands

-- all bits of a word are set
word_set : (c : ℕ) → c < 64 → bit_at 18446744073709551615 c ≡ 1
word_set c below = bit_at_ones 64 c below

pub all_moved : (b : Board) (i h u : ℕ) → IsPosition b → last_of (take h (column b i)) ≡ Some u → bit_at 18446744073709551615 u ≡ 0 → ⊥
all_moved b i h u p last still =
    let small : u < 52 = stands_below b u p (among_columns b.columns i u (in_column b.columns i h u last)) in
    zero_one (bit_at 18446744073709551615 u) still (word_set u (omega (arith, small)))
  where
    zero_one : (m : ℕ) → m ≡ 0 → m ≡ 1 → ⊥
    zero_one m none one = omega arith

pub all_stand : (b : Board) (c : ℕ) → IsPosition b → (stands_among b.columns c && is_set 18446744073709551615 c) ≡ stands_among b.columns c
all_stand b c p =
    ⊎_elim
    (λ on. ap (λ t. stands_among b.columns c && t) (eq-eqb (bit_at 18446744073709551615 c) 1 (word_set c (wide c (stands_below b c p on))))
    ∙ and-true (stands_among b.columns c))
    (λ off. ap (λ t. t && is_set 18446744073709551615 c) off ∙ sym off)
    (cases_Bool (stands_among b.columns c))
  where
    wide : (n : ℕ) → n < 52 → n < 64
    wide n small = omega arith

-- a card that stands above a lower one stands in a column
pub held_stands : (columns : List (List ℕ)) (c : ℕ) → list_any (is_above_lower c) columns ≡ true → stands_among columns c ≡ true
held_stands columns c held =
    let f = found (is_above_lower c) columns held in
    list_any_at (λ column. stands_in column c) columns f.place [] f.inside (above-one c (get_or columns f.place []) f.passes).stands

pub all_held : (b : Board) (c : ℕ) → IsPosition b
    → (list_any (is_above_lower c) b.columns && is_set 18446744073709551615 c) ≡ list_any (is_above_lower c) b.columns
all_held b c p =
    ⊎_elim
    (λ on.
    let same = all_stand b c p in
    ap (λ t. list_any (is_above_lower c) b.columns && t) (set_by (stands_among b.columns c) (is_set 18446744073709551615 c) (held_stands b.columns c on) same)
    ∙ and-true (list_any (is_above_lower c) b.columns))
    (λ off. ap (λ t. t && is_set 18446744073709551615 c) off ∙ sym off)
    (cases_Bool (list_any (is_above_lower c) b.columns))
  where
    set_by : (p q : Bool) → p ≡ true → (p && q) ≡ p → q ≡ true
    set_by true q _ is = is
    set_by false q never _ = absurd (true≢false (sym never))

-- where no card of a column moved, none stands among those that did
pub none_moved : (bits front : ℕ) (cards : List ℕ) → front ≡ length cards → (0 < front → bit_at bits (get_or cards (front - 1) 0) ≡ 0)
    → MoveAbove bits cards → (c : ℕ) → stands_in cards c ≡ true → bit_at bits c ≡ 0
none_moved bits front cards is last above c stands =
    let whole : take front cards ≡ cards = take_all front cards (omega (arith, is)) in
    first_still bits front cards (omega (arith, is)) last above c (ap (λ x. stands_in x c) whole ∙ stands)

-- where the last card of a column is no one of those that moved, its last bit is none of theirs
pub still_last : (bits last : ℕ) (cards : List ℕ) → AreBits last (λ c. ends_with c (last_of cards)) → bit_and last bits ≡ 0
    → 0 < length cards → bit_at bits (get_or cards (length cards - 1) 0) ≡ 0
still_last bits last cards ends none some =
    let u = get_or cards (length cards - 1) 0 in
    let is : last_of cards ≡ Some u = slice_get-get_or cards (length cards - 1) 0 (omega (arith, some)) in
    let own : bit_at last u ≡ 1 = ends u ∙ ap (λ t. cond t 1 0) (ap (ends_with u) is ∙ eq-eqb u u refl) in
    omega (arith, bit_at-lt bits u, λ (set : bit_at bits u ≡ 1). no_bits (bit_and last bits) u none (in_both last bits u own set))

pub none_set : (bits c : ℕ) (test : Bool) → (test ≡ true → bit_at bits c ≡ 0) → ◌≡◌ {A = ℕ} 0 (cond (test && is_set bits c) 1 0)
none_set bits c true still = ap (λ n. cond (n == 1) 1 0) (sym (still refl))
none_set bits c false still = refl
