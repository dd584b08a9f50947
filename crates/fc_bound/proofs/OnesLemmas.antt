-- The cards that wait for a card beneath them, counted as bits.
use Rattle.std.proofs.Common.{◌≡◌, ℕ, ◌+◌, ◌/◌, ◌%◌, ◌^◌, ◌<◌, ◌≤◌, zero, suc, min, bit_and, Bool, true, false, cond, Some, List, [], ◌∷◌, ◌++◌, length, get_or, take, refl, sym, ◌∙◌, ap, subst, ⊎_elim, true≢false, arith}
use Rattle.std.specs.Prelude.{◌==◌, ◌||◌, count_ones, count_by, sum_by, slice_get}
use Rattle.std.specs.Int.{bit_at}
use Rattle.std.specs.List.{list_any, range_with_len}
use Rattle.std.proofs.lemmas.Bool.{cases_lt}
use Rattle.std.proofs.lemmas.List.{take_all}
use Rattle.std.proofs.lemmas.List.Folds.{list_any_at}
use Rattle.std.proofs.lemmas.List.Sums.{sum_by-cons, sum_by-append, get_or-le-sum_by}
use Rattle.std.proofs.lemmas.Option.{slice_get-get_or, get_or_from_slice_get}
use Rattle.std.proofs.lemmas.Nat.{shr_below, ones-le}
use Rattle.std.proofs.lemmas.Nat.Bits.{bit_at-suc, bit_at_lowest, bit_at_and}
use lib.Count.{ones_step}
use Rattle.fc_position.specs.Board.{Board, last_of, count_in_column}
use Rattle.fc_position.specs.Position.{IsPosition}
use Rattle.fc_position.proofs.BoardLemmas.{places_most}
use Rattle.fc_bound.specs.Bound.{is_above_lower, stands_in}
use Rattle.fc_bound.specs.declared.waiting_rows.Row.{Row}
use Rattle.fc_bound.specs.Knots.{waits_above}
use Rattle.fc_bound.specs.Rows.{AreBits, stands_among}
use Rattle.fc_bound.specs.inner.Rows.{IsLeft, left_of, left_in, waiting_of, waiting_in}
use Rattle.fc_bound.proofs.AboveLemmas.{or-true, not_true, above-one, above-other, contains-stands, stands-counted, next_seen, next_once}
use Rattle.fc_bound.proofs.BitLemmas.{last_of-push}
use Rattle.fc_bound.proofs.CountLemmas.{count-but_one_of, count-of_two_of, count-none_of}
use Rattle.fc_bound.proofs.FillLemmas.{not_yet}
use Rattle.fc_bound.proofs.HeldLemmas.{found, either, column_once}
use Rattle.fc_bound.proofs.LeftLemmas.{left_rest, left_at, left_stands, same_column, stands_inside}
use Rattle.fc_bound.proofs.LooseLemmas.{above_rest, above_waits}

-- the bits that are set, counted one by one
shifted : (p : ℕ → Bool) (a n : ℕ) → count_by p (range_with_len (a + 1) n) ≡ count_by (λ x. p (suc x)) (range_with_len a n)
shifted p a zero = refl
shifted p a (suc n) =
    let next : ◌≡◌ {A = ℕ} (cond (p (a + 1)) 1 0) (cond (p (suc a)) 1 0) = ap (λ x. cond (p x) 1 0) (omega arith) in
    omega (
      arith,
      sum_by-cons (λ x. cond (p x) 1 0) (a + 1) (range_with_len (a + 1 + 1) n),
      sum_by-cons (λ x. cond (p (suc x)) 1 0) a (range_with_len (a + 1) n),
      next,
      shifted p (a + 1) n,
    )

bit_one : (n : ℕ) → n < 2 → ◌≡◌ {A = ℕ} (cond (n == 1) 1 0) n
bit_one zero small = refl
bit_one (suc zero) small = refl
bit_one (suc (suc n)) small = absurd (omega (arith, small))

pub ones_are : (k n : ℕ) → n < 2 ^ k → count_ones n ≡ count_by (λ c. bit_at n c == 1) (range_with_len 0 k)
ones_are zero n small = omega (arith, ones-le 0 n small)
ones_are (suc k) n small =
    let half : n / 2 < 2 ^ k = shr_below n k 1 (subst (λ j. n < 2 ^ j) (omega arith) small) in
    let first : ◌≡◌ {A = ℕ} (cond (bit_at n 0 == 1) 1 0) (n % 2) = ap (λ m. cond (m == 1) 1 0) (bit_at_lowest n) ∙ bit_one (n % 2) (omega arith) in
    let rest : count_by (λ c. bit_at (n / 2) c == 1) (range_with_len 0 k) ≡ count_by (λ c. bit_at n (suc c) == 1) (range_with_len 0 k) =
    ap (λ p. count_by p (range_with_len 0 k)) (λ i c. sym (bit_at-suc n c) i == 1) in
    omega (
      arith,
      ones_step n,
      ones_are k (n / 2) half,
      rest,
      shifted (λ c. bit_at n c == 1) 0 k,
      sum_by-cons (λ c. cond (bit_at n c == 1) 1 0) 0 (range_with_len (0 + 1) k),
      first,
    )

item_is : (x : List ℕ) (high u : ℕ) → slice_get x high ≡ Some u → u ≡ get_or x high u
item_is x high u item = sym (get_or_from_slice_get x high u u item)

-- a column's lowest cards that wait are those that stand above a lower one of their suit
column_waits : (n : ℕ) (x : List ℕ) → ((c : ℕ) → count_in_column c x ≤ 1) → ((c : ℕ) → stands_in x c ≡ true → c < n) → (high : ℕ) → high ≤ length x
    → count_by (λ c. is_above_lower c (take high x)) (range_with_len 0 n) ≡ waiting_of high x
column_waits n x once below zero inside = count-none_of n
column_waits n x once below (suc high) inside =
    let u : ℕ = get_or x high 0 in
    let seen : List ℕ = take high x in
    let within : high < length x = omega (arith, inside) in
    let item : u ≡ get_or x high u = item_is x high u (slice_get-get_or x high 0 within) in
    let more : ◌≡◌ {A = ℕ} (suc high) (high + 1) = omega arith in
    let next : take (suc high) x ≡ seen ++ u ∷ [] = ap (λ k. take k x) more ∙ next_seen x high u within item in
    let new : stands_in seen u ≡ false = not_yet seen u (next_once x high u within item once) in
    let stands : stands_in x u ≡ true = contains-stands x u (high, within, sym item) in
    let before : ◌≡◌ {A = ℕ} (cond (is_above_lower u seen) 1 0) 0 = ap (λ t. cond t 1 0) (not_true (is_above_lower u seen) (λ above.
    true≢false (sym (above-one u seen above).stands ∙ new))) in
    let after : ◌≡◌ {A = ℕ} (cond (is_above_lower u (take (suc high) x)) 1 0) (cond (waits_above (take (suc high) x)) 1 0) =
    ap (λ t. cond t 1 0) (above_waits (take (suc high) x) u (ap last_of next ∙ last_of-push seen u)) in
    omega (
      arith,
      count-but_one_of n u (λ c. is_above_lower c (take (suc high) x)) (λ c. is_above_lower c seen) (below u stands)
          (λ c other. ap (is_above_lower c) next ∙ above-other c u seen (λ e. other (sym e))),
      before,
      after,
      column_waits n x once below high (omega (arith, inside)),
    )

-- so are those of all columns, where each card stands once
pub columns_wait : (n : ℕ) (columns : List (List ℕ)) → ((c : ℕ) → sum_by (count_in_column c) columns ≤ 1)
    → ((c : ℕ) → stands_among columns c ≡ true → c < n)
    → count_by (λ c. list_any (is_above_lower c) columns) (range_with_len 0 n) ≡ waiting_in columns
columns_wait n [] once below = count-none_of n
columns_wait n (x ∷ xs) once below =
    let split : (c : ℕ) → sum_by (count_in_column c) (x ∷ xs) ≡ count_in_column c x + sum_by (count_in_column c) xs =
    λ c. sum_by-cons (count_in_column c) x xs in
    let here = column_waits n x (λ c. omega (arith, once c, split c)) (λ c stands. below c (ap (λ t. t || stands_among xs c) stands)) (length x) (omega arith) in
    let whole : count_by (λ c. is_above_lower c (take (length x) x)) (range_with_len 0 n) ≡ count_by (λ c. is_above_lower c x) (range_with_len 0 n) =
    ap (λ y. count_by (λ c. is_above_lower c y) (range_with_len 0 n)) (take_all (length x) x (omega arith)) in
    let rest = columns_wait n xs (λ c. omega (arith, once c, split c))
    (λ c stands. below c (ap (λ t. stands_in x c || t) stands ∙ or-true (stands_in x c))) in
    omega (
      arith,
      count-of_two_of n (λ c. is_above_lower c x || list_any (is_above_lower c) xs) (λ c. is_above_lower c x) (λ c. list_any (is_above_lower c) xs)
          (λ c _. either (is_above_lower c x || list_any (is_above_lower c) xs) (is_above_lower c x) (list_any (is_above_lower c) xs) refl
          (λ one two. let f = found (is_above_lower c) xs two in omega (
            arith,
            once c,
            split c,
            stands-counted x c (above-one c x one).stands,
            stands-counted (get_or xs f.place []) c (above-one c (get_or xs f.place []) f.passes).stands,
            get_or-le-sum_by (count_in_column c) xs f.place [] f.inside,
          ))),
      here,
      whole,
      rest,
      sum_by-cons (λ (column : List ℕ). waiting_of (length column) column) x xs,
    )

-- what is left of columns has no card more often
left_few : (bits c : ℕ) (columns : List (List ℕ)) → sum_by (count_in_column c) (left_in bits columns) ≤ sum_by (count_in_column c) columns
left_few bits c [] = omega arith
left_few bits c (x ∷ xs) =
    let r = left_rest bits x in
    let split = ap (count_in_column c) r.is ∙ sum_by-append (λ d. cond (d == c) 1 0) (left_of bits x) r.rest in
    omega (
      arith,
      split,
      sum_by-cons (count_in_column c) x xs,
      sum_by-cons (count_in_column c) (left_of bits x) (left_in bits xs),
      left_few bits c xs,
    )

-- a card that is left stands above a lower one where it did at first
left_above : (b : Board) (bits k c : ℕ) → IsPosition b → stands_in (left_of bits (get_or b.columns k [])) c ≡ true
    → is_above_lower c (get_or b.columns k []) ≡ is_above_lower c (left_of bits (get_or b.columns k []))
left_above b bits k c p stands =
    let x : List ℕ = get_or b.columns k [] in
    let y : List ℕ = left_of bits x in
    let r = left_rest bits x in
    let split = ap (count_in_column c) r.is ∙ sum_by-append (λ d. cond (d == c) 1 0) y r.rest in
    let none : stands_in r.rest c ≡ false = not_true (stands_in r.rest c) (λ again. omega (
      arith,
      split,
      stands-counted r.rest c again,
      stands-counted y c stands,
      column_once b k c p,
    )) in
    ap (is_above_lower c) r.is ∙ above_rest c y r.rest none

both_bits : (p q r : Bool) → (p ≡ true → q ≡ true → r ≡ true) → (r ≡ true → (p ≡ true) × (q ≡ true))
    → ◌≡◌ {A = ℕ} (min (cond p 1 0) (cond q 1 0)) (cond r 1 0)
both_bits true true r one two = ap (λ t. cond t 1 0) (sym (one refl refl))
both_bits true false r one two = ap (λ t. cond t 1 0) (sym (not_true r (λ is. true≢false (sym (two is).1))))
both_bits false q r one two = none q ∙ ap (λ t. cond t 1 0) (sym (not_true r (λ is. true≢false (sym (two is).0))))
  where
    none : (q : Bool) → ◌≡◌ {A = ℕ} (min 0 (cond q 1 0)) 0
    none q = omega arith

held_bits : (b : Board) (rows : List Row) (held all lasts : ℕ) → IsLeft b rows held all lasts
    → AreBits (bit_and held all) (λ c. list_any (is_above_lower c) (left_in all b.columns))
held_bits b rows held all lasts left c =
    let v : List (List ℕ) = left_in all b.columns in
    bit_at_and held all c ∙ ap (λ n. min n (bit_at all c)) (left.above c) ∙ ap (min (cond (list_any (is_above_lower c) b.columns) 1 0)) (left.stand c)
    ∙ both_bits (list_any (is_above_lower c) b.columns) (stands_among v c) (list_any (is_above_lower c) v)
    (λ above stand.
    let f = found (is_above_lower c) b.columns above in
    let g = found (λ x. stands_in x c) v stand in
    let same : f.place ≡ g.place = same_column b f.place g.place c left.whole (above-one c (get_or b.columns f.place []) f.passes).stands
    (left_stands b all g.place c g.passes) in
    let at : get_or v g.place [] ≡ left_of all (get_or b.columns g.place []) = left_at all b.columns g.place in
    list_any_at (is_above_lower c) v g.place [] g.inside (ap (is_above_lower c) at
    ∙ sym (left_above b all g.place c left.whole (ap (λ x. stands_in x c) (sym at) ∙ g.passes))
    ∙ ap (λ k. is_above_lower c (get_or b.columns k [])) (sym same) ∙ f.passes))
    (λ above.
    let f = found (is_above_lower c) v above in
    let at : get_or v f.place [] ≡ left_of all (get_or b.columns f.place []) = left_at all b.columns f.place in
    let stands = (above-one c (get_or v f.place []) f.passes).stands in (
      list_any_at (is_above_lower c) b.columns f.place [] (stands_inside b.columns f.place c (left_stands b all f.place c stands))
          (left_above b all f.place c left.whole (ap (λ x. stands_in x c) (sym at) ∙ stands) ∙ ap (is_above_lower c) (sym at) ∙ f.passes),
      list_any_at (λ x. stands_in x c) v f.place [] f.inside stands,
    ))

-- the bits of those that wait, and are left, are as many as wait
pub waiting_ones : (b : Board) (rows : List Row) (held all lasts : ℕ) → IsLeft b rows held all lasts → bit_and held all < 2 ^ 64
    → count_ones (bit_and held all) ≡ waiting_in (left_in all b.columns)
waiting_ones b rows held all lasts left fits =
    let v : List (List ℕ) = left_in all b.columns in
    ones_are 64 (bit_and held all) fits
    ∙ ap (λ (test : ℕ → Bool). count_by test (range_with_len 0 64)) (λ i c. tested c i)
    ∙ columns_wait 64 v (λ c. omega (arith, left_few all c b.columns, places_most b c left.whole))
    (λ c stand.
    let f = found (λ x. stands_in x c) v stand in
    let stands = left_stands b all f.place c f.passes in
    ⊎_elim (λ lt. omega (arith, lt))
    (λ past. absurd (omega (
      arith,
      left.whole.no_other c past,
      stands-counted (get_or b.columns f.place []) c stands,
      get_or-le-sum_by (count_in_column c) b.columns f.place [] (stands_inside b.columns f.place c stands),
    )))
    (cases_lt c 52))
  where
    bit : (t : Bool) → (cond t 1 0 == 1) ≡ t
    bit true = refl
    bit false = refl

    tested : (c : ℕ) → (bit_at (bit_and held all) c == 1) ≡ list_any (is_above_lower c) (left_in all b.columns)
    tested c = ap (λ (n : ℕ). n == 1) (held_bits b rows held all lasts left c) ∙ bit (list_any (is_above_lower c) (left_in all b.columns))
