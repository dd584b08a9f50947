-- The table of columns of which some cards moved, over that of those before.
use Rattle.std.proofs.Common.{◌≡◌, ℕ, ◌+◌, ◌-◌, ◌<◌, ◌≤◌, ◌^◌, min, bit_and, bit_or, Bool, true, false, cond, Some, List, [], ◌∷◌, ◌++◌, length, get_or, take, drop, inl, inr, ◌⊎◌, refl, sym, ◌∙◌, ap, subst, ⊎_elim, true≢false, w64, arith}
use Rattle.std.specs.Prelude.{◌==◌, ◌&&◌, ◌||◌, not}
use Rattle.std.specs.Int.{bit_at, bit_not}
use Rattle.std.specs.List.{list_any}
use Rattle.std.proofs.lemmas.Bool.{cases_Bool, cases_eq, cases_lt, eq-eqb, eqb-true}
use Rattle.std.proofs.lemmas.List.{length-take, length-take-le, take_all, take_at, take-append-drop, take-take}
use Rattle.std.proofs.lemmas.List.Folds.{list_any-append, list_any_at}
use Rattle.std.proofs.lemmas.List.Sums.{sum_by-append, sum_by-take-le}
use Rattle.std.proofs.lemmas.Nat.{and_le_r}
use Rattle.std.proofs.lemmas.Nat.Bits.{bit_at_and, bit_at_ones}
use Rattle.fc_position.specs.Board.{Board, column, count_in_column, front_of, last_of}
use Rattle.fc_position.specs.Position.{IsPosition}
use Rattle.fc_position.proofs.BoardLemmas.{front_last}
use Rattle.fc_bound.specs.Bound.{stands_in, is_lower, is_above_lower}
use Rattle.fc_bound.specs.declared.waiting_rows.ColumnTable.{ColumnTable}
use Rattle.fc_bound.specs.declared.waiting_rows.Row.{Row}
use Rattle.fc_bound.specs.Rows.{AreBits, AreRowsBut, HaveMoved, IsFrontIn, IsRow, IsTableBut, IsTableOf, LiesOnOne, no_row, stands_among}
use Rattle.fc_bound.specs.Knots.{ends_with, ends_among}
use Rattle.fc_bound.specs.inner.Rows.{is_set}
use Rattle.fc_bound.proofs.AboveLemmas.{and-false, and-true, or-false, above-one, not_true, stands-contains, stands-counted}
use Rattle.fc_bound.proofs.BitLemmas.{bits_or, is_one, no_bits, some_bit}
use Rattle.fc_bound.proofs.FamilyRows.{stands_below}
use Rattle.fc_bound.proofs.FillLemmas.{not_yet, stands_take}
use Rattle.fc_bound.proofs.HeldLemmas.{found, column_once}
use Rattle.fc_bound.proofs.LeftLemmas.{at_ends, ends_at, ends_last, last_ends, last_stands, same_column, same_test, stands_inside}
use Rattle.fc_bound.proofs.OverLemmas.{all_moved, read_same, taken_last, in_column, among_columns, held_stands}
use Rattle.fc_bound.proofs.TiedLemmas.{in_both, in_first, in_second, in_not, not_in, none_set}

zero_one : (m : ℕ) → m ≡ 0 → m ≡ 1 → ⊥
zero_one m none one = omega arith

wide : (n : ℕ) → n < 52 → n < 64
wide n small = omega arith

-- the lowest cards of a column up to one that stands in it
pub record Front (cards : List ℕ) (c : ℕ) : Type 0 where
  pub height : ℕ
  pub last : last_of (take height cards) ≡ Some c

pub card_front : (cards : List ℕ) (c : ℕ) → stands_in cards c ≡ true → Front cards c
card_front cards c stands =
    let (k, inside, is) = stands-contains cards c stands in
    record { height = k + 1; last = taken_last cards k inside ∙ ap (λ (n : ℕ). Some n) (read_same cards k 0 c inside ∙ is) }

pub among_front : (columns : List (List ℕ)) (c : ℕ) → stands_among columns c ≡ true → (i : ℕ) × (h : ℕ) × (last_of (take h (get_or columns i [])) ≡ Some c)
among_front columns c stands =
    let f = found (λ x. stands_in x c) columns stands in
    let front = card_front (get_or columns f.place []) c f.passes in
    (f.place, front.height, front.last)

-- the front of a column before, as a front by height
whole_front : (front above : List ℕ) → take (length front) (front ++ above) ≡ front
whole_front front above = take_at front above (length front) refl

front_stands : (before : List (List ℕ)) (front : List ℕ) (c : ℕ) → (f : IsFrontIn before front) → stands_in front c ≡ true
    → stands_in (get_or before f.number []) c ≡ true
front_stands before front c f stands =
    ap (λ x. stands_in x c) f.is ∙ list_any-append (λ d. d == c) front f.above ∙ ap (λ t. t || stands_in f.above c) stands

-- a card that hasn't moved stands in columns before where it stands now
pub still_stands : (before after : List (List ℕ)) (bits c : ℕ) → HaveMoved before after bits → bit_at bits c ≡ 0
    → stands_among before c ≡ stands_among after c
still_stands before after bits c moved still =
    same_test (stands_among before c) (stands_among after c) (λ stands. moved.stay c stands still)
    (λ stands.
    let (i, h, last) = among_front after c stands in
    let f = moved.fronts i h c last still in
    among_columns before f.number c (front_stands before (take h (get_or after i [])) c f (last_stands (take h (get_or after i [])) c last)))

-- whether a card stands above a lower one is told by what lies beneath it
above_front : (front rest : List ℕ) (c : ℕ) → stands_in rest c ≡ false → is_above_lower c (front ++ rest) ≡ is_above_lower c front
above_front [] rest c off = not_true (is_above_lower c rest) (λ on. true≢false (sym (above-one c rest on).stands ∙ off))
above_front (d ∷ front) rest c off =
    let more : stands_in (front ++ rest) c ≡ stands_in front c =
    list_any-append (λ e. e == c) front rest ∙ ap (λ t. stands_in front c || t) off ∙ or-false (stands_in front c) in
    ap (λ t. (is_lower c d && t) || is_above_lower c (front ++ rest)) more
    ∙ ap (λ t. (is_lower c d && stands_in front c) || t) (above_front front rest c off)

not_twice : (front rest : List ℕ) (c : ℕ) → count_in_column c (front ++ rest) ≤ 1 → stands_in front c ≡ true → stands_in rest c ≡ false
not_twice front rest c once stands = not_true (stands_in rest c) (λ again.
    omega (arith, stands-counted front c stands, stands-counted rest c again, sum_by-append (λ x. cond (x == c) 1 0) front rest, once))

pub above_by_front : (column front rest : List ℕ) (c : ℕ) → column ≡ front ++ rest → count_in_column c column ≤ 1 → stands_in front c ≡ true
    → is_above_lower c column ≡ is_above_lower c front
above_by_front column front rest c is once stands =
    ap (is_above_lower c) is
    ∙ above_front front rest c (not_twice front rest c (subst (λ x. count_in_column c x ≤ 1) is once) stands)

-- of a column with a card, whether some column has it above a lower one
held_column : (b : Board) (i c : ℕ) → IsPosition b → stands_in (column b i) c ≡ true → list_any (is_above_lower c) b.columns ≡ is_above_lower c (column b i)
held_column b i c p stands =
    same_test (list_any (is_above_lower c) b.columns) (is_above_lower c (column b i))
    (λ held.
    let f = found (is_above_lower c) b.columns held in
    let same : f.place ≡ i = same_column b f.place i c p (above-one c (get_or b.columns f.place []) f.passes).stands stands in
    subst (λ k. is_above_lower c (column b k) ≡ true) same f.passes)
    (list_any_at (is_above_lower c) b.columns i [] (stands_inside b.columns i c stands))

-- a card that hasn't moved stands above a lower one as it did
pub held_still : (s b : Board) (bits c : ℕ) → IsPosition s → IsPosition b → HaveMoved s.columns b.columns bits → bit_at bits c ≡ 0
    → list_any (is_above_lower c) s.columns ≡ list_any (is_above_lower c) b.columns
held_still s b bits c ps pb moved still =
    ⊎_elim
    (λ on.
    let (i, h, last) = among_front b.columns c on in
    let front : List ℕ = take h (column b i) in
    let f : IsFrontIn s.columns front = moved.fronts i h c last still in
    let own : stands_in front c ≡ true = last_stands front c last in
    held_column s f.number c ps (front_stands s.columns front c f own)
    ∙ above_by_front (column s f.number) front f.above c f.is (column_once s f.number c ps) own
    ∙ sym (held_column b i c pb (in_column b.columns i h c last)
    ∙ above_by_front (column b i) front (drop h (column b i)) c (sym (take-append-drop h (column b i))) (column_once b i c pb) own))
    (λ off.
    let none : (columns : List (List ℕ)) → stands_among columns c ≡ false → list_any (is_above_lower c) columns ≡ false =
    λ columns out. not_true (list_any (is_above_lower c) columns) (λ held. true≢false (sym (held_stands columns c held) ∙ out)) in
    none s.columns (still_stands s.columns b.columns bits c moved still ∙ off) ∙ sym (none b.columns off))
    (cases_Bool (stands_among b.columns c))

-- bits without those of others
unset : (a bits c : ℕ) (p : Bool) → bits < 2 ^ 64 → (p ≡ true → c < 52) → bit_at a c ≡ cond p 1 0
    → bit_at (bit_and a (bit_not w64 bits)) c ≡ cond (p && not (is_set bits c)) 1 0
unset a bits c p fits small are =
    bit_at_and a (bit_not w64 bits) c ∙ ap (λ n. min n (bit_at (bit_not w64 bits) c)) are ∙ go p small
  where
    least_none : (n : ℕ) → min 0 n ≡ 0
    least_none n = omega arith

    go : (p : Bool) → (p ≡ true → c < 52) → min (cond p 1 0) (bit_at (bit_not w64 bits) c) ≡ cond (p && not (is_set bits c)) 1 0
    go false small = least_none (bit_at (bit_not w64 bits) c)
    go true small = ⊎_elim
        (λ on.
        let set : bit_at bits c ≡ 1 = eqb-true (bit_at bits c) 1 on in
        let none : bit_at (bit_not w64 bits) c ≡ 0 = none_set (bit_not w64 bits) c (λ one. zero_one (bit_at bits c) (not_in bits c fits (wide c (small refl)) one) set) in
        ap (min 1) none ∙ sym (ap (λ t. cond (not t) 1 0) on))
        (λ off.
        let zero : bit_at bits c ≡ 0 = none_set bits c (λ set. true≢false (sym (eq-eqb (bit_at bits c) 1 set) ∙ off)) in
        ap (min 1) (in_not bits c fits (wide c (small refl)) zero) ∙ sym (ap (λ t. cond (not t) 1 0) off))
        (cases_Bool (is_set bits c))

-- what moved and what didn't are all
joined : (now was set : Bool) → (set ≡ false → was ≡ now) → now ≡ ((now && set) || (was && not set))
joined now was true same = sym (ap (λ t. (now && true) || t) (and-false was) ∙ or-false (now && true) ∙ and-true now)
joined now was false same = sym (ap (λ t. t || (was && true)) (and-false now) ∙ and-true was ∙ same refl)

not_set : (bits c : ℕ) → is_set bits c ≡ false → bit_at bits c ≡ 0
not_set bits c off = none_set bits c (λ set. true≢false (sym (eq-eqb (bit_at bits c) 1 set) ∙ off))

-- the marks of a table over a start
pub marks_over : (marks old bits : ℕ) (now was : ℕ → Bool) → bits < 2 ^ 64 → ((c : ℕ) → was c ≡ true → c < 52)
    → ((c : ℕ) → bit_at bits c ≡ 0 → was c ≡ now c) → AreBits marks (λ c. now c && is_set bits c) → AreBits old was
    → AreBits (bit_or marks (bit_and old (bit_not w64 bits))) now
marks_over marks old bits now was fits small same are were =
    bits_or marks (bit_and old (bit_not w64 bits)) (λ c. now c && is_set bits c) (λ c. was c && not (is_set bits c)) now are
    (λ c. unset old bits c (was c) fits (small c) (were c))
    (λ c. joined (now c) (was c) (is_set bits c) (λ off. same c (not_set bits c off)))

-- the rows of cards that haven't moved, where those that had before are the start's again
pub rows_over : (s b : Board) (start old : ColumnTable) (rows : List Row) (before bits : ℕ) → IsPosition b → bits < 2 ^ 64
    → IsTableOf s.columns start → IsTableBut before s.columns old → HaveMoved s.columns b.columns bits
    → ((c : ℕ) → bit_at (bit_and (bit_and before (bit_not w64 bits)) 4503599627370495) c ≡ 1 → get_or rows c no_row ≡ get_or start.rows c no_row)
    → ((c : ℕ) → bit_at (bit_and (bit_and before (bit_not w64 bits)) 4503599627370495) c ≡ 0 → get_or rows c no_row ≡ get_or old.rows c no_row)
    → AreRowsBut bits b.columns rows
rows_over s b start old rows before bits p fits table but moved taken kept i h u last still =
    let front : List ℕ = take h (column b i) in
    let f : IsFrontIn s.columns front = moved.fronts i h u last still in
    let there : take (length front) (column s f.number) ≡ front = ap (take (length front)) f.is ∙ whole_front front f.above in
    let ends : last_of (take (length front) (column s f.number)) ≡ Some u = ap last_of there ∙ last in
    let small : u < 52 = stands_below b u p (among_columns b.columns i u (in_column b.columns i h u last)) in
    ⊎_elim
    (λ had.
    let own : bit_at (bit_and before (bit_not w64 bits)) u ≡ 1 = in_both before (bit_not w64 bits) u had (in_not bits u fits (wide u small) still) in
    subst (λ r. IsRow r front) (sym (taken u (in_both (bit_and before (bit_not w64 bits)) 4503599627370495 u own (bit_at_ones 52 u small))))
    (subst (IsRow (get_or start.rows u no_row)) there (table.rows f.number (length front) u ends)))
    (λ hadnt.
    let none : bit_at (bit_and (bit_and before (bit_not w64 bits)) 4503599627370495) u ≡ 0 =
    none_set (bit_and (bit_and before (bit_not w64 bits)) 4503599627370495) u (λ set. hadnt
    (in_first before (bit_not w64 bits) u (in_first (bit_and before (bit_not w64 bits)) 4503599627370495 u set))) in
    subst (λ r. IsRow r front) (sym (kept u none))
    (subst (IsRow (get_or old.rows u no_row)) there (but.rows f.number (length front) u ends (none_set before u hadnt))))
    (cases_eq (bit_at before u) 1)

-- the cards of a column up to one that stands in it once are the same by whatever height
less_front : (xs : List ℕ) (h k u : ℕ) → h < k → count_in_column u xs ≤ 1 → last_of (take h xs) ≡ Some u → last_of (take k xs) ≡ Some u
    → take h xs ≡ take k xs
less_front xs h k u less once low high =
    let t : List ℕ = take k xs in
    let m : ℕ = length t - 1 in
    ⊎_elim
    (λ under.
    let is : t ≡ take m xs ++ u ∷ [] = front_last t u high ∙ ap (λ x. x ++ u ∷ []) (take-take m k xs (omega (arith, length-take k xs))) in
    let new : stands_in (take m xs) u ≡ false =
    not_yet (take m xs) u (subst (λ x. count_in_column u x ≤ 1) is (omega (arith, once, sum_by-take-le (λ x. cond (x == u) 1 0) xs k))) in
    absurd (true≢false (sym (stands_take h (take m xs) u (ap (λ x. stands_in x u) (take-take h m xs under) ∙ last_stands (take h xs) u low)) ∙ new)))
    (λ over.
    let whole : length xs ≤ h = ⊎_elim (λ few. omega (arith, length-take k xs, few, over)) (λ many. omega (arith, length-take-le k xs many, over, less)) (cases_lt (length xs) k) in
    take_all h xs whole ∙ sym (take_all k xs (omega (arith, whole, less))))
    (at_most h m)
  where
    at_most : (a b : ℕ) → (a ≤ b) ⊎ (b < a)
    at_most a b = ⊎_elim (λ lt. inr lt) (λ le. inl le) (cases_lt b a)

pub one_front : (xs : List ℕ) (h k u : ℕ) → count_in_column u xs ≤ 1 → last_of (take h xs) ≡ Some u → last_of (take k xs) ≡ Some u
    → take h xs ≡ take k xs
one_front xs h k u once one other =
    ⊎_elim (λ less. less_front xs h k u less once one other)
    (λ most. ⊎_elim (λ less. sym (less_front xs k h u less once other one))
    (λ least. ap (λ n. take n xs) (omega (arith, most, least))) (cases_lt k h))
    (cases_lt h k)

-- the table of columns is that of those before, but for the cards that moved
pub table_but : (s b : Board) (t : ColumnTable) (bits : ℕ) → IsPosition s → IsTableOf b.columns t → HaveMoved s.columns b.columns bits
    → IsTableBut bits s.columns t
table_but s b t bits p table moved = record {
  long = table.long;
  rows = λ j h u last still.
      let stands : stands_in (column s j) u ≡ true = in_column s.columns j h u last in
      let (i, k, ends) = among_front b.columns u (moved.stay u (among_columns s.columns j u stands) still) in
      let front : List ℕ = take k (column b i) in
      let f : IsFrontIn s.columns front = moved.fronts i k u ends still in
      let same : f.number ≡ j = same_column s f.number j u p (front_stands s.columns front u f (last_stands front u ends)) stands in
      let there : take (length front) (column s j) ≡ front =
      ap (λ n. take (length front) (column s n)) (sym same) ∙ ap (take (length front)) f.is ∙ whole_front front f.above in
      subst (IsRow (get_or t.rows u no_row))
      (sym (one_front (column s j) h (length front) u (column_once s j u p) last (ap last_of there ∙ ends) ∙ there))
      (table.rows i k u ends);
}

-- what lies beneath a last card, by its row
last_row : (columns : List (List ℕ)) (t : ColumnTable) (i u : ℕ) → IsTableOf columns t → last_of (get_or columns i []) ≡ Some u
    → IsRow (get_or t.rows u no_row) (get_or columns i [])
last_row columns t i u table last =
    let whole : take (length (get_or columns i [])) (get_or columns i []) ≡ get_or columns i [] = take_all (length (get_or columns i [])) (get_or columns i []) (omega arith) in
    subst (IsRow (get_or t.rows u no_row)) whole (table.rows i (length (get_or columns i [])) u (ap last_of whole ∙ last))

-- a last card with a card of a set beneath it, by its row and by the columns
pub covers_on : (b : Board) (t : ColumnTable) (cards u : ℕ) → IsTableOf b.columns t → cards < 2 ^ 64 → bit_at t.marks.lasts u ≡ 1
    → 0 < bit_and (get_or t.rows u no_row).beneath cards → LiesOnOne b.columns cards u
covers_on b t cards u table fits last some =
    let e = ends_at b.columns u (is_one (ends_among b.columns u) (sym (table.lasts u) ∙ last)) in
    let row = last_row b.columns t e.place u table e.last in
    let set = some_bit (bit_and (get_or t.rows u no_row).beneath cards) some (omega (arith, and_le_r (get_or t.rows u no_row).beneath cards, fits)) in
    let beneath : bit_at (get_or t.rows u no_row).beneath set.place ≡ 1 = in_first (get_or t.rows u no_row).beneath cards set.place set.set in
    record {
      number = e.place;
      last = e.last;
      host = set.place;
      on = ends_last set.place (last_of (front_of (column b e.place)))
          (is_one (ends_with set.place (last_of (front_of (column b e.place)))) (sym (row.beneath set.place) ∙ beneath));
      set = in_second (get_or t.rows u no_row).beneath cards set.place set.set;
    }

pub on_covers : (b : Board) (t : ColumnTable) (cards u : ℕ) → IsPosition b → IsTableOf b.columns t → cards < 2 ^ 64 → LiesOnOne b.columns cards u
    → (bit_at (bit_and t.marks.lasts 4503599627370495) u ≡ 1) × (0 < bit_and (get_or t.rows u no_row).beneath cards)
on_covers b t cards u p table fits on =
    let row = last_row b.columns t on.number u table on.last in
    let small : u < 52 = stands_below b u p (among_columns b.columns on.number u (last_stands (column b on.number) u on.last)) in
    let last : bit_at t.marks.lasts u ≡ 1 = table.lasts u ∙ ap (λ x. cond x 1 0) (at_ends b.columns on.number u on.last) in
    let beneath : bit_at (get_or t.rows u no_row).beneath on.host ≡ 1 =
    row.beneath on.host ∙ ap (λ x. cond x 1 0) (last_ends on.host (last_of (front_of (column b on.number))) on.on) in (
      in_both t.marks.lasts 4503599627370495 u last (bit_at_ones 52 u small),
      some_set (bit_and (get_or t.rows u no_row).beneath cards) on.host (in_both (get_or t.rows u no_row).beneath cards on.host beneath on.set),
    )
  where
    some_set : (n c : ℕ) → bit_at n c ≡ 1 → 0 < n
    some_set n c set = ⊎_elim (λ lt. lt) (λ none. absurd (no_bits n c (omega (arith, none)) set)) (cases_lt 0 n)

-- where all cards are said to have moved
pub moved_all : (s b : Board) → IsPosition s → IsPosition b → HaveMoved s.columns b.columns 18446744073709551615
moved_all s b ps pb = record {
  fronts = λ i h u last still. absurd (all_moved b i h u pb last still);
  above = λ i h u c last still _. absurd (all_moved b i h u pb last still);
  stay = λ c stands still.
      let (i, h, last) = among_front s.columns c stands in absurd (all_moved s i h c ps last still);
}
