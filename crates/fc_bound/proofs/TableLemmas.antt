-- What is looked up of columns, where a last card leaves a column, and where it comes back.
use Rattle.std.proofs.Common.{◌≡◌, ℕ, ◌+◌, ◌-◌, ◌*◌, ◌%◌, ◌^◌, ◌<◌, ◌≤◌, zero, suc, min, max, bit_and, bit_or, Bool, true, false, cond, Some, None, List, [], ◌∷◌, ◌++◌, length, get_or, set, take, refl, sym, ◌∙◌, ap, subst, ⊎_elim, true≢false, arith}
use Rattle.std.specs.Prelude.{◌==◌, ◌&&◌, ◌||◌, not}
use Rattle.std.specs.Int.{bit_at}
use Rattle.std.specs.List.{list_any}
use Rattle.std.proofs.lemmas.Bool.{cases_eq, cases_lt, or_left, or_right, or_cases, and_parts, and_from, eq-eqb, eqb-true}
use Rattle.std.proofs.lemmas.Bool.Decides.{nat_tests}
use Rattle.std.proofs.lemmas.List.{get_or-set_same, get_or-set_other, set-set, set-get_or, take-take, take_all, take_at, length_push, length-set, length-take-le}
use Rattle.std.proofs.lemmas.List.Folds.{list_any_at}
use Rattle.std.proofs.lemmas.Nat.Bits.{bit_at_and, bit_at-lt, bit_at-zero}
use Rattle.std.proofs.lemmas.Option.{slice_get-get_or}
use Rattle.fc_position.specs.Board.{Board, column, last_of, front_of, board_without, count_in_column}
use Rattle.fc_position.specs.Position.{IsPosition}
use Rattle.fc_position.proofs.BoardLemmas.{front_last}
use Rattle.fc_cards.specs.declared.places.Place.TheVariants.{Column}
use Rattle.fc_bound.specs.declared.waiting_rows.Row.{Row}
use Rattle.fc_bound.specs.declared.waiting_rows.ColumnTable.{ColumnTable}
use Rattle.fc_bound.specs.Bound.{is_lower, stands_in, is_above_lower}
use Rattle.fc_bound.specs.Clearing.{without}
use Rattle.fc_bound.specs.Knots.{ends_with, ends_among}
use Rattle.fc_bound.specs.Rows.{AreBits, AreWaiting, AreRows, IsRow, IsTableOf, no_row, stands_among}
use Rattle.fc_bound.specs.inner.Rows.{IsLeft, left_in}
use Rattle.fc_bound.proofs.AboveLemmas.{not_true, or-false, above-one, above-other, above-top, stands-more}
use Rattle.fc_bound.proofs.BitLemmas.{bits_or, one_bit_is}
use Rattle.fc_bound.proofs.ClearingLemmas.{last_there}
use Rattle.fc_bound.proofs.FillLemmas.{not_yet, stands_take, row_next, each_more, each_all, waiting_more}
use Rattle.fc_bound.proofs.HeldLemmas.{found, held-lifted, column_once}
use Rattle.fc_bound.proofs.LeftLemmas.{IsWithout, same_bit, no_bit, left_whole, taken_without, last_stands, ends_last, last_ends, at_ends, ends_at, same_column, same_test}
use Rattle.fc_bound.proofs.TakeLemmas.{left_less}

-- the rows of a front are those of the whole column
front_rows : (rows : List Row) (x : List ℕ) → ((h v : ℕ) → last_of (take h x) ≡ Some v → IsRow (get_or rows v no_row) (take h x))
    → (h v : ℕ) → last_of (take h (front_of x)) ≡ Some v → IsRow (get_or rows v no_row) (take h (front_of x))
front_rows rows x each h v last =
    ⊎_elim
    (λ few.
    let same : take h (front_of x) ≡ take h x = take-take h (length x - 1) x (omega (arith, few)) in
    subst (IsRow (get_or rows v no_row)) (sym same) (each h v (sym (ap last_of same) ∙ last)))
    (λ many.
    let same : take h (front_of x) ≡ take (length x - 1) x = take_all h (front_of x) (omega (arith, many, length-take-le (length x - 1) x (omega arith))) in
    subst (IsRow (get_or rows v no_row)) (sym same) (each (length x - 1) v (sym (ap last_of same) ∙ last)))
    (cases_lt h (length x - 1))

-- a last card is lifted
pub table_lifted : (b : Board) (t : ColumnTable) (i u all lasts held : ℕ) → IsPosition b → IsTableOf b.columns t → last_of (column b i) ≡ Some u
    → IsWithout t.marks.all u all
    → ((c : ℕ) → bit_at lasts c ≡ max (cond (c == u) 0 (bit_at t.marks.lasts c)) (bit_at (get_or t.rows u no_row).beneath c))
    → IsWithout t.marks.held u held
    → IsTableOf (board_without b (Column i)).columns (record { rows = t.rows; marks = record { all = all; lasts = lasts; held = held } })
table_lifted b t i u all lasts held p table last less ends fewer =
    let v : List (List ℕ) = left_in t.marks.all b.columns in
    let whole : v ≡ b.columns = left_whole t.marks.all b.columns table.all in
    let left : IsLeft b t.rows t.marks.held t.marks.all t.marks.lasts = record {
      whole = p;
      long = table.long;
      each = table.rows;
      above = table.held;
      stand = subst (λ w. AreBits t.marks.all (stands_among w)) (sym whole) table.all;
      ends = subst (λ w. AreBits t.marks.lasts (ends_among w)) (sym whole) table.lasts;
    } in
    let there : last_of (get_or v i []) ≡ Some u = ap (λ w. last_of (get_or w i [])) whole ∙ last in
    let now = left_less b t.rows t.marks.held t.marks.all t.marks.lasts u all lasts left (at_ends v i u there) less ends in
    let after : left_in all b.columns ≡ without b.columns i =
    taken_without b t.marks.all i u all p less there ∙ ap (λ w. without w i) whole in
    let stand : AreBits all (stands_among (without b.columns i)) = subst (λ w. AreBits all (stands_among w)) after now.stand in
    record {
      long = table.long;
      rows = λ j h d ends. ⊎_elim
          (λ e.
          let same : get_or (without b.columns i) j [] ≡ front_of (column b i) =
          ap (λ k. get_or (without b.columns i) k []) e ∙ get_or-set_same b.columns i (front_of (column b i)) [] (last_there b.columns i u last) in
          subst (λ x. IsRow (get_or t.rows d no_row) (take h x)) (sym same)
          (front_rows t.rows (column b i) (table.rows i) h d (ap (λ x. last_of (take h x)) (sym same) ∙ ends)))
          (λ ne.
          let same : get_or (without b.columns i) j [] ≡ column b j = get_or-set_other b.columns i j (front_of (column b i)) [] ne in
          subst (λ x. IsRow (get_or t.rows d no_row) (take h x)) (sym same)
          (table.rows j h d (ap (λ x. last_of (take h x)) (sym same) ∙ ends)))
          (cases_eq j i);
      all = stand;
      lasts = subst (λ w. AreBits lasts (ends_among w)) after now.ends;
      held = λ c. ⊎_elim
          (λ e.
          let none : list_any (is_above_lower u) (without b.columns i) ≡ false = not_true (list_any (is_above_lower u) (without b.columns i)) (λ any.
          let f = found (is_above_lower u) (without b.columns i) any in
          let stands : stands_among (without b.columns i) u ≡ true =
          list_any_at (λ x. stands_in x u) (without b.columns i) f.place [] f.inside (above-one u (get_or (without b.columns i) f.place []) f.passes).stands in
          let one = stand u ∙ ap (λ t. cond t 1 0) stands in
          let zero = no_bit t.marks.all u all less in
          omega (arith, one, zero)) in
          ap (bit_at held) e ∙ no_bit t.marks.held u held fewer ∙ sym (ap (λ t. cond t 1 0) none)
          ∙ ap (λ d. cond (list_any (is_above_lower d) (without b.columns i)) 1 0) (sym e))
          (λ ne. same_bit t.marks.held u held c fewer ne ∙ table.held c
          ∙ ap (λ t. cond t 1 0) (sym (held-lifted b (Column i) u c last (λ e. ne (sym e)))))
          (cases_eq c u);
    }

-- a list that passes, perhaps, where the one that it replaces did not
any_more : (test : List ℕ → Bool) (columns : List (List ℕ)) (i : ℕ) (new : List ℕ) (more : Bool) → i < length columns
    → test new ≡ (test (get_or columns i []) || more) → list_any test (set columns i new) ≡ (list_any test columns || more)
any_more test [] i new more inside is = absurd (omega (arith, inside))
any_more test (x ∷ xs) zero new more inside is =
    ap (λ t. t || list_any test xs) is ∙ turned (test x) more (list_any test xs)
  where
    turned : (p q r : Bool) → ((p || q) || r) ≡ ((p || r) || q)
    turned true q r = refl
    turned false true true = refl
    turned false true false = refl
    turned false false true = refl
    turned false false false = refl
any_more test (x ∷ xs) (suc i) new more inside is =
    ap (λ t. test x || t) (any_more test xs i new more (omega (arith, inside)) is) ∙ joined (test x) (list_any test xs) more
  where
    joined : (p q r : Bool) → (p || (q || r)) ≡ ((p || q) || r)
    joined true q r = refl
    joined false q r = refl

-- a board by the columns that are left where a last card is lifted
record Back (b : Board) (i u : ℕ) : Type 0 where
  front : List ℕ
  is_front : front ≡ front_of (column b i)
  cards : column b i ≡ front ++ u ∷ []
  inside : i < length b.columns
  here : get_or (set b.columns i front) i [] ≡ front
  back : b.columns ≡ set (set b.columns i front) i (front ++ u ∷ [])
  new : stands_in front u ≡ false

back_of : (b : Board) (i u : ℕ) → IsPosition b → last_of (column b i) ≡ Some u → Back b i u
back_of b i u p last =
    let x : List ℕ = front_of (column b i) in
    let there = last_there b.columns i u last in
    let whole : column b i ≡ x ++ u ∷ [] = front_last (column b i) u last in
    record {
      front = x;
      is_front = refl;
      cards = whole;
      inside = there;
      here = get_or-set_same b.columns i x [] there;
      back = sym (set-set b.columns i x (x ++ u ∷ []) ∙ ap (λ (y : List ℕ). set b.columns i y) (sym whole) ∙ set-get_or b.columns i []);
      new = not_yet x u (subst (λ y. count_in_column u y ≤ 1) whole (column_once b i u p));
    }

-- the last cards once a card is put on a column: it, and all others but the one beneath it
last_more : (b : Board) (i u c : ℕ) → IsPosition b → last_of (column b i) ≡ Some u
    → ends_among b.columns c ≡ ((not (ends_with c (last_of (front_of (column b i)))) && ends_among (without b.columns i) c) || (u == c))
unfolding back_of
last_more b i u c p last =
    let x : List ℕ = front_of (column b i) in
    let v : List (List ℕ) = without b.columns i in
    let a = back_of b i u p last in
    let on : Bool = not (ends_with c (last_of x)) && ends_among v c in
    same_test (ends_among b.columns c) (on || (u == c))
    (λ ends.
    let f = ends_at b.columns c ends in
    ⊎_elim
    (λ e.
    let same : Some u ≡ Some c = sym last ∙ ap (λ k. last_of (column b k)) (sym e) ∙ f.last in
    let one : u ≡ c = cc in or_right on (u == c) (eq-eqb u c one))
    (λ ne.
    let other : get_or v f.place [] ≡ column b f.place = get_or-set_other b.columns i f.place x [] ne in
    let beneath : ends_with c (last_of x) ≡ false = not_true (ends_with c (last_of x)) (λ under.
    let stands : stands_in (column b i) c ≡ true = ap (λ y. stands_in y c) a.cards ∙ stands-more x u c
    ∙ or_left (stands_in x c) (u == c) (last_stands x c (ends_last c (last_of x) under)) in
    ne (same_column b f.place i c p (last_stands (column b f.place) c f.last) stands)) in
    or_left on (u == c) (and_from (not (ends_with c (last_of x))) (ends_among v c) (ap not beneath)
    (at_ends v f.place c (ap last_of other ∙ f.last))))
    (cases_eq f.place i))
    (λ either. ⊎_elim
    (λ both.
    let parts = and_parts (not (ends_with c (last_of x))) (ends_among v c) both in
    let f = ends_at v c parts.1 in
    ⊎_elim
    (λ e.
    let under : ends_with c (last_of x) ≡ true =
    last_ends c (last_of x) (ap last_of (sym a.here) ∙ ap (λ k. last_of (get_or v k [])) (sym e) ∙ f.last) in
    absurd (true≢false (sym parts.0 ∙ ap not under)))
    (λ ne. at_ends b.columns f.place c (ap last_of (sym (get_or-set_other b.columns i f.place x [] ne)) ∙ f.last))
    (cases_eq f.place i))
    (λ one. let same : u ≡ c = eqb-true u c one in at_ends b.columns i c (last ∙ ap (λ (k : ℕ). Some k) same))
    (or_cases on (u == c) either))

-- which cards stand above a lower one of their suit once it is put there
above_one : (b : Board) (i u c : ℕ) → IsPosition b → last_of (column b i) ≡ Some u
    → list_any (is_above_lower c) b.columns
    ≡ (list_any (is_above_lower c) (without b.columns i) || ((u == c) && list_any (is_lower u) (front_of (column b i))))
unfolding back_of
above_one b i u c p last =
    let x : List ℕ = front_of (column b i) in
    let a = back_of b i u p last in
    let more : Bool = (u == c) && list_any (is_lower u) x in
    let step : is_above_lower c (x ++ u ∷ []) ≡ (is_above_lower c x || more) =
    ⊎_elim
    (λ e.
    let none : is_above_lower u x ≡ false = not_true (is_above_lower u x) (λ above. true≢false (sym (above-one u x above).stands ∙ a.new)) in
    ap (λ d. is_above_lower d (x ++ u ∷ [])) (sym e) ∙ above-top u x
    ∙ ap (λ t. t || list_any (is_lower u) x) (sym none)
    ∙ ap (λ t. is_above_lower u x || (t && list_any (is_lower u) x)) (sym (eq-eqb u u refl))
    ∙ ap (λ d. is_above_lower d x || ((u == d) && list_any (is_lower u) x)) e)
    (λ ne.
    let test : (u == c) ≡ false = not_equal u c ne in
    above-other c u x ne ∙ sym (ap (λ t. is_above_lower c x || (t && list_any (is_lower u) x)) test ∙ or-false (is_above_lower c x)))
    (cases_eq u c) in
    ap (list_any (is_above_lower c)) a.back
    ∙ any_more (is_above_lower c) (without b.columns i) i (x ++ u ∷ []) more (omega (arith, a.inside, length-set b.columns i x))
    (step ∙ ap (λ y. is_above_lower c y || more) (sym a.here))
  where
    not_equal : (a b : ℕ) → (a ≡ b → ⊥) → (a == b) ≡ false
    not_equal a b ne = grind (arith, nat_tests)

-- what is put there
pub record Pushed (b : Board) (t : ColumnTable) (i u waiting beneath lasts higher : ℕ) : Type 0 where
  pub whole : IsPosition b
  pub card : u < 52
  pub last : last_of (column b i) ≡ Some u
  pub table : IsTableOf (without b.columns i) t
  pub wait : AreWaiting waiting (front_of (column b i))
  pub under : AreBits beneath (λ c. ends_with c (last_of (front_of (column b i))))
  pub ends : (c : ℕ) → bit_at lasts c ≡ cond (ends_with c (last_of (front_of (column b i)))) 0 (bit_at t.marks.lasts c)
  pub wait_more : (c : ℕ) → c < 52 → bit_at higher c ≡ cond (is_lower c u) 1 0

pushed_rows : (b : Board) (t : ColumnTable) (i u waiting beneath lasts higher : ℕ) → Pushed b t i u waiting beneath lasts higher
    → AreRows b.columns (set t.rows u (record { waiting = bit_or waiting higher; beneath = beneath }))
unfolding back_of
pushed_rows b t i u waiting beneath lasts higher q j h d ends =
    let x : List ℕ = front_of (column b i) in
    let a = back_of b i u q.whole q.last in
    let row : Row = record { waiting = bit_or waiting higher; beneath = beneath } in
    let low : take (length x) (column b i) ≡ x = ap (take (length x)) a.cards ∙ take_at x (u ∷ []) (length x) refl in
    let long : length (column b i) ≡ length x + 1 = ap (λ (y : List ℕ). length y) a.cards ∙ length_push x u in
    let next : take (length x + 1) (column b i) ≡ take (length x) (column b i) ++ u ∷ [] =
    take_all (length x + 1) (column b i) (omega (arith, long)) ∙ a.cards ∙ ap (λ y. y ++ u ∷ []) (sym low) in
    let here : IsRow row (take (length x) (column b i) ++ u ∷ []) =
    subst (λ y. IsRow row (y ++ u ∷ [])) (sym low) (row_next row u x (waiting_more waiting higher u x q.wait q.wait_more) q.under) in
    let each = each_more t.rows row (column b i) (length x) u q.table.long q.card next (ap (λ y. stands_in y u) low ∙ a.new) here
    (λ k v few last.
    let same : take k (get_or (without b.columns i) i []) ≡ take k (column b i) =
    ap (take k) (a.here ∙ sym low) ∙ take-take k (length x) (column b i) few in
    subst (IsRow (get_or t.rows v no_row)) same (q.table.rows i k v (ap last_of same ∙ last))) in
    ⊎_elim
    (λ e.
    let all = each_all (set t.rows u row) (column b i) (length x + 1) (omega (arith, long)) each in
    subst (λ k. IsRow (get_or (set t.rows u row) d no_row) (take h (column b k))) (sym e) (all h d (ap (λ k. last_of (take h (column b k))) (sym e) ∙ ends)))
    (λ ne.
    let other : d ≡ u → ⊥ = λ e. ne (same_column b j i u q.whole
    (ap (stands_in (column b j)) (sym e) ∙ stands_take h (column b j) d (last_stands (take h (column b j)) d ends))
    (last_stands (column b i) u q.last)) in
    let same : get_or (without b.columns i) j [] ≡ column b j = get_or-set_other b.columns i j x [] ne in
    subst (λ r. IsRow r (take h (column b j))) (sym (get_or-set_other t.rows u d row no_row other))
    (subst (λ y. IsRow (get_or t.rows d no_row) (take h y)) same (q.table.rows j h d (ap (λ y. last_of (take h y)) same ∙ ends))))
    (cases_eq j i)

pub table_pushed : (b : Board) (t : ColumnTable) (i u waiting beneath lasts higher : ℕ) → Pushed b t i u waiting beneath lasts higher
    → IsTableOf b.columns (record {
      rows = set t.rows u (record { waiting = bit_or waiting higher; beneath = beneath });
      marks = record {
        all = bit_or t.marks.all (1 * 2 ^ u % 2 ^ 64);
        lasts = bit_or lasts (1 * 2 ^ u % 2 ^ 64);
        held = bit_or t.marks.held (bit_and waiting (1 * 2 ^ u % 2 ^ 64));
      };
    })
unfolding back_of
table_pushed b t i u waiting beneath lasts higher q =
    let x : List ℕ = front_of (column b i) in
    let v : List (List ℕ) = without b.columns i in
    let a = back_of b i u q.whole q.last in
    let bit : ℕ = 1 * 2 ^ u % 2 ^ 64 in
    let bits : (c : ℕ) → bit_at bit c ≡ cond (u == c) 1 0 = λ c. one_bit_is u c (omega (arith, q.card)) in
    let low : List ℕ → Bool = list_any (is_lower u) in
    record {
      long = length-set t.rows u (record { waiting = bit_or waiting higher; beneath = beneath }) ∙ q.table.long;
      rows = pushed_rows b t i u waiting beneath lasts higher q;
      all = bits_or t.marks.all bit (stands_among v) (λ c. u == c) (stands_among b.columns) q.table.all bits
          (λ c. ap (λ w. stands_among w c) a.back
          ∙ any_more (λ column. stands_in column c) v i (x ++ u ∷ []) (u == c) (omega (arith, a.inside, length-set b.columns i x))
          (stands-more x u c ∙ ap (λ y. stands_in y c || (u == c)) (sym a.here)));
      lasts = bits_or lasts bit (λ c. not (ends_with c (last_of x)) && ends_among v c) (λ c. u == c) (ends_among b.columns)
          (λ c. q.ends c ∙ ap (cond (ends_with c (last_of x)) 0) (q.table.lasts c) ∙ cond_bits (ends_with c (last_of x)) (ends_among v c)) bits
          (λ c. last_more b i u c q.whole q.last);
      held = bits_or t.marks.held (bit_and waiting bit) (λ c. list_any (is_above_lower c) v) (λ c. (u == c) && low x) (λ c. list_any (is_above_lower c) b.columns)
          q.table.held
          (λ c. bit_at_and waiting bit c ∙ ap (min (bit_at waiting c)) (bits c) ∙ ⊎_elim
          (λ e.
          let own : bit_at waiting u ≡ cond (low x) 1 0 = q.wait u q.card in
          ap (λ t. min (bit_at waiting c) (cond t 1 0)) (eq-eqb u c e) ∙ min_one (bit_at waiting c) (bit_at-lt waiting c)
          ∙ ap (bit_at waiting) (sym e) ∙ own ∙ ap (λ t. cond (t && low x) 1 0) (sym (eq-eqb u c e)))
          (λ ne.
          let test : (u == c) ≡ false = not_equal u c ne in
          ap (λ t. min (bit_at waiting c) (cond t 1 0)) test ∙ min_none (bit_at waiting c) ∙ ap (λ t. cond (t && low x) 1 0) (sym test))
          (cases_eq u c))
          (λ c. above_one b i u c q.whole q.last);
    }
  where
    cond_bits : (t p : Bool) → ◌≡◌ {A = ℕ} (cond t 0 (cond p 1 0)) (cond (not t && p) 1 0)
    cond_bits true p = refl
    cond_bits false p = refl

    min_one : (n : ℕ) → n < 2 → min n 1 ≡ n
    min_one n small = omega arith

    min_none : (n : ℕ) → min n 0 ≡ 0
    min_none n = omega arith

    not_equal : (a b : ℕ) → (a ≡ b → ⊥) → (a == b) ≡ false
    not_equal a b ne = grind (arith, nat_tests)

-- where a column has no last card, none is lifted
pub none_lifted : (columns : List (List ℕ)) (i : ℕ) → last_of (get_or columns i []) ≡ None → without columns i ≡ columns
none_lifted columns i none =
    ap (λ (x : List ℕ). set columns i x) (empty (get_or columns i []) none) ∙ set-get_or columns i []
  where
    empty : (x : List ℕ) → last_of x ≡ None → front_of x ≡ x
    empty [] none = refl
    empty (c ∷ x) none = absurd (
        let some = slice_get-get_or (c ∷ x) (length (c ∷ x) - 1) 0 (omega arith) in cc)

-- no card waits for one of no cards
pub none_wait : (x : List ℕ) → last_of x ≡ None → AreWaiting 0 x × AreBits 0 (λ c. ends_with c (last_of x))
none_wait [] none = (λ c below. bit_at-zero c, λ c. bit_at-zero c)
none_wait (c ∷ x) none = absurd (
    let some = slice_get-get_or (c ∷ x) (length (c ∷ x) - 1) 0 (omega arith) in cc)

-- the row of the card beneath the last one
pub some_wait : (columns : List (List ℕ)) (t : ColumnTable) (i v : ℕ) → IsTableOf columns t → last_of (get_or columns i []) ≡ Some v
    → AreWaiting (get_or t.rows v no_row).waiting (get_or columns i [])
some_wait columns t i v table last =
    let x : List ℕ = get_or columns i [] in
    let whole : take (length x) x ≡ x = take_all (length x) x (omega arith) in
    subst (AreWaiting (get_or t.rows v no_row).waiting) whole (table.rows i (length x) v (ap last_of whole ∙ last)).waiting

-- what a card is put on: the bits of the cards that wait for one of those, of the last of them, and of the last cards but that one
pub record On (b : Board) (t : ColumnTable) (i : ℕ) (on : ℕ × ℕ × ℕ) : Type 0 where
  pub wait : AreWaiting on.0 (front_of (column b i))
  pub under : AreBits on.1 (λ c. ends_with c (last_of (front_of (column b i))))
  pub ends : (c : ℕ) → bit_at on.2 c ≡ cond (ends_with c (last_of (front_of (column b i)))) 0 (bit_at t.marks.lasts c)

pub on_none : (b : Board) (t : ColumnTable) (i : ℕ) → last_of (front_of (column b i)) ≡ None → On b t i (0, 0, t.marks.lasts)
on_none b t i none =
    let both = none_wait (front_of (column b i)) none in
    record {
      wait = both.0;
      under = both.1;
      ends = λ c. sym (ap (λ o. cond (ends_with c o) 0 (bit_at t.marks.lasts c)) none);
    }

pub on_some : (b : Board) (t : ColumnTable) (i u v lasts : ℕ) → IsPosition b → last_of (column b i) ≡ Some u → IsTableOf (without b.columns i) t
    → last_of (front_of (column b i)) ≡ Some v → v < 52 → ((c : ℕ) → bit_at lasts c ≡ cond (c == v) 0 (bit_at t.marks.lasts c))
    → On b t i ((get_or t.rows v no_row).waiting, 1 * 2 ^ v % 2 ^ 64, lasts)
unfolding back_of
on_some b t i u v lasts p last table below small removed =
    let a = back_of b i u p last in
    record {
      wait = subst (AreWaiting (get_or t.rows v no_row).waiting) a.here
          (some_wait (without b.columns i) t i v table (ap last_of a.here ∙ below));
      under = λ c. one_bit_is v c (omega (arith, small)) ∙ ap (λ o. cond (ends_with c o) 1 0) (sym below);
      ends = λ c. removed c ∙ ap (λ s. cond s 0 (bit_at t.marks.lasts c)) (turned c v) ∙ ap (λ o. cond (ends_with c o) 0 (bit_at t.marks.lasts c)) (sym below);
    }
  where
    turned : (c v : ℕ) → (c == v) ≡ (v == c)
    turned c v = grind (arith, nat_tests)
