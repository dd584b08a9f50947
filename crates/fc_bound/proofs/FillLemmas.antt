-- How the rows of a column are filled, card by card.
use Rattle.std.proofs.Common.{◌≡◌, ◌≢◌, ℕ, ◌+◌, ◌-◌, ◌*◌, ◌%◌, ◌^◌, ◌<◌, ◌≤◌, min, max, zero, suc, bit_or, bit_and, Bool, true, false, cond, Some, List, [], ◌∷◌, ◌++◌, length, get_or, set, take, drop, refl, sym, ◌∙◌, ap, subst, ⊎_elim, true≢false, arith}
use Rattle.std.specs.Prelude.{◌==◌, ◌&&◌, ◌||◌, not}
use Rattle.std.specs.Int.{bit_at}
use Rattle.std.specs.List.{list_any}
use Rattle.std.proofs.lemmas.Bool.{cases_eq, cases_lt, or_left, eq-eqb, eqb-true}
use Rattle.std.proofs.lemmas.Bool.Decides.{nat_tests}
use Rattle.std.proofs.lemmas.List.{take_at, take-take, take_all, length_push, get_or-set_same, get_or-set_other, take-append-drop}
use Rattle.std.proofs.lemmas.List.Folds.{list_any-append}
use Rattle.std.proofs.lemmas.List.Sums.{sum_by_push}
use Rattle.std.proofs.lemmas.Nat.Bits.{bit_at_and, bit_at_or, bit_at-lt}
use Rattle.fc_position.specs.Board.{last_of, front_of, count_in_column}
use Rattle.fc_bound.specs.Bound.{is_lower, stands_in, is_above_lower}
use Rattle.fc_bound.specs.declared.waiting_rows.Row.{Row}
use Rattle.fc_bound.specs.Rows.{AreBits, AreWaiting, IsRow, no_row}
use Rattle.fc_bound.specs.inner.Rows.{stands_above}
use Rattle.fc_bound.specs.Knots.{ends_with}
use Rattle.fc_bound.proofs.AboveLemmas.{and-false, and-true, or-false, or-true, lower-more, not_true, stands-more, stands-counted, above-one, above-other, above-top}
use Rattle.fc_bound.proofs.BitLemmas.{either_bits, one_bit_is, last_of-push}
use Rattle.fc_bound.proofs.LeftLemmas.{last_stands}

-- a card that stands once isn't among those before it
pub not_yet : (seen : List ℕ) (n : ℕ) → count_in_column n (seen ++ n ∷ []) ≤ 1 → stands_in seen n ≡ false
not_yet seen n once = not_true (stands_in seen n) (λ stands.
    let one : ◌≡◌ {A = ℕ} (cond (n == n) 1 0) 1 = ap (λ t. cond t 1 0) (eq-eqb n n refl) in
    omega (arith, stands-counted seen n stands, sum_by_push (λ x. cond (x == n) 1 0) seen n, once, one))

pub end_one : (n : ℕ) (seen : List ℕ) → n < 64 → AreBits (1 * 2 ^ n % 2 ^ 64) (λ c. ends_with c (last_of (seen ++ n ∷ [])))
end_one n seen below c = one_bit_is n c below ∙ ap (λ o. cond (ends_with c o) 1 0) (sym (last_of-push seen n))

-- the cards that wait for one of these, or for the next
pub waiting_more : (waiting higher n : ℕ) (seen : List ℕ) → AreWaiting waiting seen
    → ((c : ℕ) → c < 52 → bit_at higher c ≡ cond (is_lower c n) 1 0) → AreWaiting (bit_or waiting higher) (seen ++ n ∷ [])
waiting_more waiting higher n seen are up c below =
    bit_at_or waiting higher c ∙ ap (λ m. max m (bit_at higher c)) (are c below) ∙ ap (max (cond (list_any (is_lower c) seen) 1 0)) (up c below)
    ∙ either_bits (list_any (is_lower c) seen) (is_lower c n) (list_any (is_lower c) (seen ++ n ∷ [])) (lower-more c n seen)

-- the next card stands above a lower one of its suit where it waits for one of those before it
pub above_more : (held waiting n : ℕ) (seen : List ℕ) → n < 52 → stands_in seen n ≡ false → AreBits held (λ c. is_above_lower c seen)
    → AreWaiting waiting seen → AreBits (bit_or held (bit_and waiting (1 * 2 ^ n % 2 ^ 64))) (λ c. is_above_lower c (seen ++ n ∷ []))
above_more held waiting n seen below new are wait c =
    let bit : ℕ = 1 * 2 ^ n % 2 ^ 64 in
    bit_at_or held (bit_and waiting bit) c ∙ ap (max (bit_at held c)) (bit_at_and waiting bit c) ∙ ⊎_elim
    (λ e.
    let none : bit_at held n ≡ 0 = are n ∙ ap (λ t. cond t 1 0) (not_true (is_above_lower n seen) (λ above.
    true≢false (sym (above-one n seen above).stands ∙ new))) in
    let one : bit_at bit n ≡ 1 = one_bit_is n n (omega (arith, below)) ∙ ap (λ t. cond t 1 0) (eq-eqb n n refl) in
    let top : bit_at waiting n ≡ cond (is_above_lower n (seen ++ n ∷ [])) 1 0 = wait n below ∙ ap (λ t. cond t 1 0) (sym (above-top n seen)) in
    ap (λ d. max (bit_at held d) (min (bit_at waiting d) (bit_at bit d))) (sym e)
    ∙ its_own (bit_at held n) (bit_at waiting n) (bit_at bit n) none one (bit_at-lt waiting n) ∙ top
    ∙ ap (λ d. cond (is_above_lower d (seen ++ n ∷ [])) 1 0) e)
    (λ ne.
    let other : n ≢ c = ne in
    let none : bit_at bit c ≡ 0 = one_bit_is n c (omega (arith, below)) ∙ ap (λ t. cond t 1 0) (not_equal n c ne) in
    anothers (bit_at held c) (bit_at waiting c) (bit_at bit c) none ∙ are c ∙ ap (λ t. cond t 1 0) (sym (above-other c n seen other)))
    (cases_eq n c)
  where
    not_equal : (a b : ℕ) → (a ≡ b → ⊥) → (a == b) ≡ false
    not_equal a b ne = grind (arith, nat_tests)

    its_own : (x y z : ℕ) → x ≡ 0 → z ≡ 1 → y < 2 → max x (min y z) ≡ y
    its_own x y z none one small = omega arith

    anothers : (x y z : ℕ) → z ≡ 0 → max x (min y z) ≡ x
    anothers x y z none = omega arith

-- the row of the next card
front-push : (seen : List ℕ) (n : ℕ) → front_of (seen ++ n ∷ []) ≡ seen
front-push seen n = take_at seen (n ∷ []) (length (seen ++ n ∷ []) - 1) (omega (arith, length_push seen n))

pub row_next : (row : Row) (n : ℕ) (seen : List ℕ) → AreWaiting row.waiting (seen ++ n ∷ [])
    → AreBits row.beneath (λ c. ends_with c (last_of seen)) → IsRow row (seen ++ n ∷ [])
row_next row n seen waiting beneath = record {
  waiting = waiting;
  beneath = λ c. beneath c ∙ ap (λ x. cond (ends_with c (last_of x)) 1 0) (sym (front-push seen n));
}

-- a card of some lowest ones stands in the column
pub stands_take : (h : ℕ) (cards : List ℕ) (u : ℕ) → stands_in (take h cards) u ≡ true → stands_in cards u ≡ true
stands_take h cards u stands =
    ap (λ x. stands_in x u) (sym (take-append-drop h cards)) ∙ list_any-append (λ d. d == u) (take h cards) (drop h cards)
    ∙ or_left (stands_in (take h cards) u) (stands_in (drop h cards) u) stands

-- the rows up to the next card, from some card on
pub each_above : (rows : List Row) (row : Row) (cards : List ℕ) (front i n : ℕ) → length rows ≡ 52 → n < 52
    → take (i + 1) cards ≡ take i cards ++ n ∷ [] → stands_in (take i cards) n ≡ false → IsRow row (take i cards ++ n ∷ [])
    → ((h u : ℕ) → front < h → h ≤ i → last_of (take h cards) ≡ Some u → IsRow (get_or rows u no_row) (take h cards))
    → (h u : ℕ) → front < h → h ≤ i + 1 → last_of (take h cards) ≡ Some u → IsRow (get_or (set rows n row) u no_row) (take h cards)
each_above rows row cards front i n long below next new here each h u from most last =
    ⊎_elim
    (λ few.
    let seen : stands_in (take i cards) u ≡ true =
    stands_take h (take i cards) u (ap (λ x. stands_in x u) (take-take h i cards (omega (arith, few))) ∙ last_stands (take h cards) u last) in
    let other : u ≡ n → ⊥ = λ e. true≢false (sym seen ∙ ap (stands_in (take i cards)) e ∙ new) in
    subst (λ r. IsRow r (take h cards)) (sym (get_or-set_other rows n u row no_row other)) (each h u from (omega (arith, few)) last))
    (λ past.
    let e : h ≡ i + 1 = omega (arith, past, most) in
    let is : take h cards ≡ take i cards ++ n ∷ [] = ap (λ k. take k cards) e ∙ next in
    let ends : Some u ≡ Some n = sym last ∙ ap last_of is ∙ last_of-push (take i cards) n in
    let same : u ≡ n = cc in
    subst (λ k. IsRow (get_or (set rows n row) k no_row) (take h cards)) (sym same)
    (subst (λ r. IsRow r (take h cards)) (sym (get_or-set_same rows n row no_row (omega (arith, long, below)))) (subst (IsRow row) (sym is) here)))
    (cases_lt h (i + 1))

-- the rows up to the next card
none-first : (cards : List ℕ) (h u : ℕ) → last_of (take h cards) ≡ Some u → 0 < h
none-first cards zero u last = absurd (cc)
none-first cards (suc h) u last = omega arith

pub each_more : (rows : List Row) (row : Row) (cards : List ℕ) (i n : ℕ) → length rows ≡ 52 → n < 52
    → take (i + 1) cards ≡ take i cards ++ n ∷ [] → stands_in (take i cards) n ≡ false → IsRow row (take i cards ++ n ∷ [])
    → ((h u : ℕ) → h ≤ i → last_of (take h cards) ≡ Some u → IsRow (get_or rows u no_row) (take h cards))
    → (h u : ℕ) → h ≤ i + 1 → last_of (take h cards) ≡ Some u → IsRow (get_or (set rows n row) u no_row) (take h cards)
each_more rows row cards i n long below next new here each h u most last =
    each_above rows row cards 0 i n long below next new here (λ k v _. each k v) h u (none-first cards h u last) most last

-- the rows of all numbers of the column's lowest cards
pub each_all : (rows : List Row) (cards : List ℕ) (i : ℕ) → length cards ≤ i
    → ((h u : ℕ) → h ≤ i → last_of (take h cards) ≡ Some u → IsRow (get_or rows u no_row) (take h cards))
    → (h u : ℕ) → last_of (take h cards) ≡ Some u → IsRow (get_or rows u no_row) (take h cards)
each_all rows cards i all each h u last =
    ⊎_elim
    (λ more.
    let same : take h cards ≡ take i cards = take_all h cards (omega (arith, all, more)) ∙ sym (take_all i cards all) in
    subst (IsRow (get_or rows u no_row)) (sym same) (each i u (omega arith) (ap last_of (sym same) ∙ last)))
    (λ few. each h u few last)
    (cases_lt i h)

-- a card that is put on others stands above the first of them
stands_next : (a e f : Bool) → (e ≡ true → f ≡ false) → ((a || e) && not f) ≡ ((a && not f) || e)
stands_next true true f off = let e : f ≡ false = off refl in ap not e ∙ sym (ap (λ t. not t || true) e)
stands_next true false f off = sym (or-false (not f))
stands_next false true f off = ap not (off refl)
stands_next false false f off = refl

pub above_stands : (front h n : ℕ) (cards : List ℕ) → front ≤ h → take (h + 1) cards ≡ take h cards ++ n ∷ [] → stands_in (take h cards) n ≡ false
    → (c : ℕ) → stands_above front (take (h + 1) cards) c ≡ (stands_above front (take h cards) c || (n == c))
above_stands front h n cards from next new c =
    let f : Bool = stands_in (take front cards) c in
    let here : stands_above front (take h cards) c ≡ (stands_in (take h cards) c && not f) =
    ap (λ x. stands_in (take h cards) c && not (stands_in x c)) (take-take front h cards from) in
    let there : stands_above front (take (h + 1) cards) c ≡ ((stands_in (take h cards) c || (n == c)) && not f) =
    ap (λ x. stands_in (take (h + 1) cards) c && not (stands_in x c)) (take-take front (h + 1) cards (omega (arith, from)))
    ∙ ap (λ t. t && not f) (ap (λ x. stands_in x c) next ∙ stands-more (take h cards) n c) in
    let off : (n == c) ≡ true → f ≡ false = λ e. not_true f (λ stands.
    true≢false (sym (stands_take front (take h cards) c (ap (λ x. stands_in x c) (take-take front h cards from) ∙ stands))
    ∙ ap (stands_in (take h cards)) (sym (eqb-true n c e)) ∙ new)) in
    there ∙ stands_next (stands_in (take h cards) c) (n == c) f off ∙ ap (λ t. t || (n == c)) (sym here)

-- the bits of the cards above the first ones that stand above a lower one, with the next card
pub above_next : (held waiting n : ℕ) (seen : List ℕ) (test : ℕ → Bool) → n < 52 → stands_in seen n ≡ false
    → AreBits held (λ c. is_above_lower c seen && test c) → AreWaiting waiting seen
    → AreBits (bit_or held (bit_and waiting (1 * 2 ^ n % 2 ^ 64))) (λ c. is_above_lower c (seen ++ n ∷ []) && (test c || (n == c)))
above_next held waiting n seen test below new are wait c =
    let bit : ℕ = 1 * 2 ^ n % 2 ^ 64 in
    bit_at_or held (bit_and waiting bit) c ∙ ap (max (bit_at held c)) (bit_at_and waiting bit c) ∙ ⊎_elim
    (λ e.
    let none : bit_at held n ≡ 0 = are n ∙ ap (λ t. cond (t && test n) 1 0) (not_true (is_above_lower n seen) (λ above.
    true≢false (sym (above-one n seen above).stands ∙ new))) in
    let one : bit_at bit n ≡ 1 = one_bit_is n n (omega (arith, below)) ∙ ap (λ t. cond t 1 0) (eq-eqb n n refl) in
    let top : bit_at waiting n ≡ cond (is_above_lower n (seen ++ n ∷ [])) 1 0 = wait n below ∙ ap (λ t. cond t 1 0) (sym (above-top n seen)) in
    let own : (test n || (n == n)) ≡ true = ap (λ t. test n || t) (eq-eqb n n refl) ∙ or-true (test n) in
    ap (λ d. max (bit_at held d) (min (bit_at waiting d) (bit_at bit d))) (sym e)
    ∙ its_own (bit_at held n) (bit_at waiting n) (bit_at bit n) none one (bit_at-lt waiting n) ∙ top
    ∙ ap (λ t. cond t 1 0) (sym (ap (λ t. is_above_lower n (seen ++ n ∷ []) && t) own ∙ and-true (is_above_lower n (seen ++ n ∷ []))))
    ∙ ap (λ d. cond (is_above_lower d (seen ++ n ∷ []) && (test d || (n == d))) 1 0) e)
    (λ ne.
    let other : n ≢ c = ne in
    let unlike : (n == c) ≡ false = not_equal n c ne in
    let none : bit_at bit c ≡ 0 = one_bit_is n c (omega (arith, below)) ∙ ap (λ t. cond t 1 0) unlike in
    anothers (bit_at held c) (bit_at waiting c) (bit_at bit c) none ∙ are c
    ∙ ap (λ t. cond (t && test c) 1 0) (sym (above-other c n seen other))
    ∙ ap (λ t. cond (is_above_lower c (seen ++ n ∷ []) && t) 1 0) (sym (ap (λ t. test c || t) unlike ∙ or-false (test c))))
    (cases_eq n c)
  where
    not_equal : (a b : ℕ) → (a ≡ b → ⊥) → (a == b) ≡ false
    not_equal a b ne = grind (arith, nat_tests)

    its_own : (x y z : ℕ) → x ≡ 0 → z ≡ 1 → y < 2 → max x (min y z) ≡ y
    its_own x y z none one small = omega arith

    anothers : (x y z : ℕ) → z ≡ 0 → max x (min y z) ≡ x
    anothers x y z none = omega arith

-- a card that doesn't stand above the first ones is neither the next nor one of those before it that do
pub not_above : (a e : Bool) → (a || e) ≡ false → (a ≡ false) × (e ≡ false)
not_above true true none = absurd (true≢false none)
not_above true false none = absurd (true≢false none)
not_above false true none = absurd (true≢false none)
not_above false false none = (refl, refl)

-- the rows of all numbers of the column's cards above the first ones
pub each_over : (rows old : List Row) (cards : List ℕ) (front i : ℕ) → length cards ≤ i → front ≤ i
    → ((h u : ℕ) → front < h → h ≤ i → last_of (take h cards) ≡ Some u → IsRow (get_or rows u no_row) (take h cards))
    → ((u : ℕ) → last_of (take front cards) ≡ Some u → IsRow (get_or old u no_row) (take front cards))
    → ((c : ℕ) → stands_above front (take i cards) c ≡ false → get_or rows c no_row ≡ get_or old c no_row)
    → (h u : ℕ) → front < h → last_of (take h cards) ≡ Some u → IsRow (get_or rows u no_row) (take h cards)
each_over rows old cards front i all inside each row others h u from last =
    ⊎_elim
    (λ more.
    let same : take h cards ≡ take i cards = take_all h cards (omega (arith, all, more)) ∙ sym (take_all i cards all) in
    let there : last_of (take i cards) ≡ Some u = ap last_of (sym same) ∙ last in
    subst (IsRow (get_or rows u no_row)) (sym same) (⊎_elim
    (λ less. each i u less (omega arith) there)
    (λ no_less.
    let e : front ≡ i = omega (arith, inside, no_less) in
    let ends : last_of (take front cards) ≡ Some u = ap (λ k. last_of (take k cards)) e ∙ there in
    let own : stands_in (take front (take i cards)) u ≡ true =
    ap (λ x. stands_in x u) (take-take front i cards inside) ∙ last_stands (take front cards) u ends in
    let off : stands_above front (take i cards) u ≡ false =
    ap (λ t. stands_in (take i cards) u && not t) own ∙ and-false (stands_in (take i cards) u) in
    subst (λ r. IsRow r (take i cards)) (sym (others u off)) (subst (λ k. IsRow (get_or old u no_row) (take k cards)) e (row u ends)))
    (cases_lt front i)))
    (λ few. each h u from few last)
    (cases_lt i h)
