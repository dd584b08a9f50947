-- Which of the cards that are left wait for none, while last cards are taken out one at a time.
use Rattle.std.proofs.Common.{◌≡◌, ◌↔◌, ℕ, ◌+◌, ◌-◌, ◌*◌, ◌/◌, ◌%◌, ◌^◌, ◌<◌, ◌≤◌, Bool, true, false, cond, bit_and, bit_or, zero, suc, Some, List, [], ◌∷◌, length, get_or, set, sym, ◌∙◌, ap, ⊎_elim, true≢false, w64, arith}
use Rattle.std.specs.Prelude.{◌==◌, ◌||◌, not}
use Rattle.std.specs.Int.{bit_at, bit_not}
use Rattle.std.specs.List.{list_any}
use Rattle.std.proofs.lemmas.Bool.{cases_eq, cases_lt, cases_Bool, and_parts, or_cases, or_left, eq-eqb, eqb-true, agree_below, agree_below_at}
use Rattle.std.proofs.lemmas.List.{get_or-set_same, get_or-set_other, get_or_past, length-set}
use Rattle.std.proofs.lemmas.List.Folds.{list_any_at, list_any-append}
use Rattle.std.proofs.lemmas.List.Sums.{sum_by-cons, get_or-le-sum_by}
use Rattle.std.proofs.lemmas.Nat.Bits.{bit_at_or, bit_at_not, bit_at_and, bit_at-lt}
use Rattle.fc_cards.specs.Card.{suit}
use Rattle.fc_position.specs.Board.{Board, last_of, front_of, count_in_column}
use Rattle.fc_position.specs.Position.{IsPosition}
use Rattle.fc_position.proofs.BoardLemmas.{front_last}
use Rattle.fc_bound.specs.declared.waiting_rows.Row.{Row}
use Rattle.fc_bound.specs.Bound.{is_lower, stands_in}
use Rattle.fc_bound.specs.Clearing.{waits, without}
use Rattle.fc_bound.specs.Knots.{has_last, waits_above}
use Rattle.fc_bound.specs.Rows.{AreBits, stands_among}
use Rattle.fc_bound.specs.inner.Rows.{left_in, AreLow, HasLower, IsLeft, Mark, ends_in, waiting_of, waiting_in}
use Rattle.fc_bound.proofs.AboveLemmas.{not_true, or-false, stands-counted}
use Rattle.fc_bound.proofs.BitLemmas.{is_one, told, waits_bits, lower_parts, one_bit_is, no_bits}
use Rattle.fc_bound.proofs.ClearingLemmas.{last_there}
use Rattle.fc_bound.proofs.HeldLemmas.{found}
use Rattle.fc_bound.proofs.LeftLemmas.{left_stands, last_stands, stands_inside}
use Rattle.fc_bound.proofs.LooseLemmas.{none_above}
use Rattle.fc_bound.proofs.TakeLemmas.{taken_stands}
use Rattle.fc_bound.proofs.WaitingLemmas.{waiting_front}

-- a card that is left is a card
pub left_below : (b : Board) (bits u : ℕ) → IsPosition b → stands_among (left_in bits b.columns) u ≡ true → u < 52
left_below b bits u p among =
    let f = found (λ column. stands_in column u) (left_in bits b.columns) among in
    let stands = left_stands b bits f.place u f.passes in
    ⊎_elim (λ lt. lt)
    (λ past. absurd (omega (
      arith,
      p.no_other u past,
      stands-counted (get_or b.columns f.place []) u stands,
      get_or-le-sum_by (count_in_column u) b.columns f.place [] (stands_inside b.columns f.place u stands),
    )))
    (cases_lt u 52)

-- those above no lower card of their suit wait for none
pub low_first : (b : Board) (rows : List Row) (held all lasts above : ℕ) → IsLeft b rows held all lasts → above < 2 ^ 64
    → ((c : ℕ) → c < 64 → (bit_at above c ≡ 1) ↔ HasLower all c) → AreLow (bit_not w64 above) (left_in all b.columns)
low_first b rows held all lasts above left fits is c among =
    let v : List (List ℕ) = left_in all b.columns in
    let below : c < 52 = left_below b all c left.whole among in
    let waits_now = waits_bits all v c left.stand in
    bit_at_not w64 above c fits (omega (arith, below))
    ∙ none_above (bit_at above c) (waits v (Some c)) (bit_at-lt above c)
    (λ one. waits_now.0 ((is c (omega (arith, below))).0 one)) (λ waiting. (is c (omega (arith, below))).1 (waits_now.1 waiting))

-- the cards of a suit, looked through bit by bit
abbrev is_right : List ℕ → ℕ → Bool
is_right table s = agree_below (λ x. bit_at (get_or table s 0) x == 1) (λ x. suit x == s) 52

pub suit_bits : (table : List ℕ) (s : ℕ) → agree_below (is_right table) (λ s. true) 4 ≡ true → s < 4
    → (x : ℕ) → x < 52 → bit_at (get_or table s 0) x ≡ cond (suit x == s) 1 0
suit_bits table s right below x under =
    let here : is_right table s ≡ true = agree_below_at (is_right table) (λ s. true) 4 s right below in
    told (bit_at (get_or table s 0) x) (suit x == s) (bit_at-lt (get_or table s 0) x)
    (agree_below_at (λ y. bit_at (get_or table s 0) y == 1) (λ y. suit y == s) 52 x here under)

-- where a card waits, the bit of a lower card of its suit is set
record Lower (all c : ℕ) : Type 0 where
  card : ℕ
  suits : suit card ≡ suit c
  less : card < c
  set : bit_at all card ≡ 1

lower_bit : (all : ℕ) (v : List (List ℕ)) (c : ℕ) → AreBits all (stands_among v) → waits v (Some c) ≡ true → Lower all c
lower_bit all v c are waiting =
    let (k, pos, from, set) = (waits_bits all v c are).1 waiting in
    record { card = c - 4 * k; suits = same c k from; less = omega (arith, pos, from); set = set }
  where
    same : (c k : ℕ) → 4 * k ≤ c → suit (c - 4 * k) ≡ suit c
    same c k from = omega (arith, from)

bit_waits : (all : ℕ) (v : List (List ℕ)) (c d : ℕ) → AreBits all (stands_among v) → suit d ≡ suit c → d < c → bit_at all d ≡ 1
    → waits v (Some c) ≡ true
bit_waits all v c d are suits less there =
    let k : ℕ = c / 4 - d / 4 in
    let place : c - 4 * (c / 4 - d / 4) ≡ d = at c d suits less in
    (waits_bits all v c are).0 (k, some c d suits less, fits c d suits less, ap (bit_at all) place ∙ there)
  where
    at : (c d : ℕ) → suit d ≡ suit c → d < c → c - 4 * (c / 4 - d / 4) ≡ d
    at c d suits less = omega (arith, suits, less)

    some : (c d : ℕ) → suit d ≡ suit c → d < c → 0 < c / 4 - d / 4
    some c d suits less = omega (arith, suits, less)

    fits : (c d : ℕ) → suit d ≡ suit c → d < c → 4 * (c / 4 - d / 4) ≤ c
    fits c d suits less = omega (arith, suits, less)

-- the lowest card that is left of a suit, by its bit
pub record Lowest (v : List (List ℕ)) (all of u m : ℕ) : Type 0 where
  pub are : AreBits all (stands_among v)
  pub cards : (c : ℕ) → stands_among v c ≡ true → c < 52
  pub suits : (c : ℕ) → c < 52 → bit_at of c ≡ cond (suit c == suit u) 1 0
  pub set : bit_at (bit_and all of) m ≡ 1
  pub least : (c : ℕ) → c < m → bit_at (bit_and all of) c ≡ 0

suit_of : (of u c : ℕ) → bit_at of c ≡ cond (suit c == suit u) 1 0 → bit_at of c ≡ 1 → suit c ≡ suit u
suit_of of u c is set = eqb-true (suit c) (suit u) (is_one (suit c == suit u) (sym is ∙ set))

of_suit : (of u c : ℕ) → bit_at of c ≡ cond (suit c == suit u) 1 0 → suit c ≡ suit u → bit_at of c ≡ 1
of_suit of u c is suits = is ∙ ap (λ t. cond t 1 0) (eq-eqb (suit c) (suit u) suits)

set_both : (all of c : ℕ) → bit_at (bit_and all of) c ≡ 1 → (bit_at all c ≡ 1) × (bit_at of c ≡ 1)
set_both all of c set =
    let both = sym (bit_at_and all of c) ∙ set in
    let one = bit_at-lt all c in
    let two = bit_at-lt of c in
    (omega (arith, both, one, two), omega (arith, both, one, two))

both_set : (all of c : ℕ) → bit_at all c ≡ 1 → bit_at of c ≡ 1 → bit_at (bit_and all of) c ≡ 1
both_set all of c one two = let both = bit_at_and all of c in omega (arith, both, one, two)

stands_bit : (v : List (List ℕ)) (all c : ℕ) → AreBits all (stands_among v) → bit_at all c ≡ 1 → stands_among v c ≡ true
stands_bit v all c are set = is_one (stands_among v c) (sym (are c) ∙ set)

-- it waits for none, and no other of the suit waits for none
lowest_suit : (v : List (List ℕ)) (all of u m : ℕ) → Lowest v all of u m → suit m ≡ suit u
lowest_suit v all of u m l =
    let here = set_both all of m l.set in
    suit_of of u m (l.suits m (l.cards m (stands_bit v all m l.are here.0))) here.1

lowest_waits : (v : List (List ℕ)) (all of u m : ℕ) → Lowest v all of u m → waits v (Some m) ≡ false
lowest_waits v all of u m l =
    not_true (waits v (Some m)) (λ waiting.
    let low = lower_bit all v m l.are waiting in
    let below : low.card < 52 = l.cards low.card (stands_bit v all low.card l.are low.set) in
    let other : bit_at of low.card ≡ 1 = of_suit of u low.card (l.suits low.card below) (low.suits ∙ lowest_suit v all of u m l) in
    let none = l.least low.card low.less in
    let one = both_set all of low.card low.set other in
    omega (arith, one, none))

lowest_is : (v : List (List ℕ)) (all of u m c : ℕ) → Lowest v all of u m → stands_among v c ≡ true → suit c ≡ suit u
    → waits v (Some c) ≡ false → m ≡ c
lowest_is v all of u m c l among suits idle =
    let set : bit_at all c ≡ 1 = l.are c ∙ ap (λ t. cond t 1 0) among in
    let one = both_set all of c set (of_suit of u c (l.suits c (l.cards c among)) suits) in
    ⊎_elim
    (λ less. absurd (let none = l.least c less in omega (arith, one, none)))
    (λ most. ⊎_elim (λ e. e)
    (λ ne. absurd (true≢false (sym (bit_waits all v c m l.are (lowest_suit v all of u m l ∙ sym suits) (omega (arith, most, ne))
    (set_both all of m l.set).0) ∙ idle)))
    (cases_eq m c))
    (cases_lt c m)

pub lowest_low : (v : List (List ℕ)) (all of u m bits : ℕ) → Lowest v all of u m → m < 64 → bits ≡ 1 * 2 ^ m % 2 ^ 64
    → (c : ℕ) → bit_at bits c ≡ 1 → waits v (Some c) ≡ false
lowest_low v all of u m bits l below is c set =
    let one = sym (one_bit_is m c below) ∙ ap (λ n. bit_at n c) (sym is) ∙ set in
    let same : m ≡ c = eqb-true m c (is_one (m == c) one) in
    ap (λ d. waits v (Some d)) (sym same) ∙ lowest_waits v all of u m l

pub lowest_each : (v : List (List ℕ)) (all of u m bits : ℕ) → Lowest v all of u m → m < 64 → bits ≡ 1 * 2 ^ m % 2 ^ 64
    → (c : ℕ) → stands_among v c ≡ true → suit c ≡ suit u → waits v (Some c) ≡ false → bit_at bits c ≡ 1
lowest_each v all of u m bits l below is c among suits idle =
    ap (λ n. bit_at n c) is ∙ one_bit_is m c below
    ∙ ap (λ t. cond t 1 0) (eq-eqb m c (lowest_is v all of u m c l among suits idle))

pub lowest_none : (v : List (List ℕ)) (all of u c : ℕ) → AreBits all (stands_among v) → ((c : ℕ) → stands_among v c ≡ true → c < 52)
    → ((c : ℕ) → c < 52 → bit_at of c ≡ cond (suit c == suit u) 1 0) → bit_and all of ≡ 0
    → stands_among v c ≡ true → suit c ≡ suit u → ⊥
lowest_none v all of u c are cards suits none among same =
    no_bits (bit_and all of) c none
    (both_set all of c (are c ∙ ap (λ t. cond t 1 0) among) (of_suit of u c (suits c (cards c among)) same))

-- without a last card fewer wait, and of those that wait no more it is a lower card
fewer_wait : (v : List (List ℕ)) (i u c : ℕ) → last_of (get_or v i []) ≡ Some u → waits (without v i) (Some c) ≡ true → waits v (Some c) ≡ true
fewer_wait v i u c last waiting =
    let x : List ℕ = get_or v i [] in
    let f = found (list_any (is_lower c)) (without v i) waiting in
    let there = last_there v i u last in
    ⊎_elim
    (λ e. let front : list_any (is_lower c) (front_of x) ≡ true =
    ap (list_any (is_lower c)) (sym (get_or-set_same v i (front_of x) [] there)) ∙ ap (λ j. list_any (is_lower c) (get_or (without v i) j [])) (sym e)
    ∙ f.passes in
    list_any_at (list_any (is_lower c)) v i [] there
    (ap (list_any (is_lower c)) (front_last x u last) ∙ list_any-append (is_lower c) (front_of x) (u ∷ [])
    ∙ or_left (list_any (is_lower c) (front_of x)) (list_any (is_lower c) (u ∷ [])) front))
    (λ ne. let same : get_or (without v i) f.place [] ≡ get_or v f.place [] = get_or-set_other v i f.place (front_of x) [] ne in
    ⊎_elim
    (λ inside. list_any_at (list_any (is_lower c)) v f.place [] inside (ap (list_any (is_lower c)) (sym same) ∙ f.passes))
    (λ past. absurd (true≢false (sym f.passes ∙ ap (list_any (is_lower c)) (same ∙ get_or_past v f.place [] past))))
    (cases_lt f.place (length v)))
    (cases_eq f.place i)

waited_for : (v : List (List ℕ)) (i u c : ℕ) → last_of (get_or v i []) ≡ Some u → waits v (Some c) ≡ true
    → waits (without v i) (Some c) ≡ false → is_lower c u ≡ true
waited_for v i u c last waiting idle =
    let x : List ℕ = get_or v i [] in
    let f = found (list_any (is_lower c)) v waiting in
    let there = last_there v i u last in
    let none : (j : ℕ) → j < length (without v i) → list_any (is_lower c) (get_or (without v i) j []) ≡ true → ⊥ =
    λ j inside passes. true≢false (sym (list_any_at (list_any (is_lower c)) (without v i) j [] inside passes) ∙ idle) in
    let long = length-set v i (front_of x) in
    ⊎_elim
    (λ e. let whole : (list_any (is_lower c) (front_of x) || list_any (is_lower c) (u ∷ [])) ≡ true =
    sym (ap (list_any (is_lower c)) (front_last x u last) ∙ list_any-append (is_lower c) (front_of x) (u ∷ []))
    ∙ ap (λ j. list_any (is_lower c) (get_or v j [])) (sym e) ∙ f.passes in
    ⊎_elim
    (λ front. absurd (none i (omega (arith, long, there)) (ap (list_any (is_lower c)) (get_or-set_same v i (front_of x) [] there) ∙ front)))
    (λ one. sym (or-false (is_lower c u)) ∙ one)
    (or_cases (list_any (is_lower c) (front_of x)) (list_any (is_lower c) (u ∷ [])) whole))
    (λ ne. absurd (none f.place (omega (arith, long, f.inside))
    (ap (list_any (is_lower c)) (get_or-set_other v i f.place (front_of x) [] ne) ∙ f.passes)))
    (cases_eq f.place i)

-- the bit is that of the lowest card of a suit, or no card of the suit is left
pub record IsLowestOf (v : List (List ℕ)) (u bit : ℕ) : Type 0 where
  pub low : (c : ℕ) → bit_at bit c ≡ 1 → waits v (Some c) ≡ false
  pub each : (c : ℕ) → stands_among v c ≡ true → suit c ≡ suit u → waits v (Some c) ≡ false → bit_at bit c ≡ 1

-- so those that wait for none are those before and the lowest card of its suit
pub low_after : (v : List (List ℕ)) (i u lows bit : ℕ) → last_of (get_or v i []) ≡ Some u → AreLow lows v
    → IsLowestOf (without v i) u bit → AreLow (bit_or lows bit) (without v i)
low_after v i u lows bit last are lowest c among =
    let now : Bool = waits (without v i) (Some c) in
    let stands : stands_among v c ≡ true =
    ⊎_elim
    (λ e. list_any_at (λ column. stands_in column c) v i [] (last_there v i u last)
    (ap (stands_in (get_or v i [])) e ∙ last_stands (get_or v i []) u last))
    (λ ne. sym (taken_stands v i u c last ne) ∙ among)
    (cases_eq c u) in
    let was = are c stands in
    let more = bit_at_or lows bit c in
    let small = bit_at-lt bit c in
    ⊎_elim
    (λ waiting.
    let old : bit_at lows c ≡ 0 = was ∙ ap (λ t. cond (not t) 1 0) (fewer_wait v i u c last waiting) in
    let none : bit_at bit c ≡ 1 → ⊥ = λ set. true≢false (sym waiting ∙ lowest.low c set) in
    let new : ◌≡◌ {A = ℕ} (cond (not now) 1 0) 0 = ap (λ t. cond (not t) 1 0) waiting in
    ⊎_elim (λ e. absurd (none e)) (λ ne. omega (arith, more, old, new, small, ne)) (cases_eq (bit_at bit c) 1))
    (λ idle.
    let new : ◌≡◌ {A = ℕ} (cond (not now) 1 0) 1 = ap (λ t. cond (not t) 1 0) idle in
    ⊎_elim
    (λ waited.
    let parts = lower_parts c u (waited_for v i u c last waited idle) in
    let set = lowest.each c among (sym parts.0) idle in
    let lt = bit_at-lt lows c in
    omega (arith, more, set, new, lt))
    (λ free. let old : bit_at lows c ≡ 1 = was ∙ ap (λ t. cond (not t) 1 0) free in omega (arith, more, old, new, small))
    (cases_Bool (waits v (Some c))))
    (cases_Bool now)

-- without a last card as many fewer wait for a card beneath them as it is one
pub waiting_without : (v : List (List ℕ)) (i : ℕ) → i < length v
    → waiting_in v ≡ cond (waits_above (get_or v i [])) 1 0 + waiting_in (without v i)
waiting_without [] i inside = absurd (omega (arith, inside))
waiting_without (x ∷ xs) zero inside = omega (
  arith,
  sum_by-cons (λ (column : List ℕ). waiting_of (length column) column) x xs,
  sum_by-cons (λ (column : List ℕ). waiting_of (length column) column) (front_of x) xs,
  waiting_front x,
)
waiting_without (x ∷ xs) (suc i) inside = omega (
  arith,
  sum_by-cons (λ (column : List ℕ). waiting_of (length column) column) x xs,
  sum_by-cons (λ (column : List ℕ). waiting_of (length column) column) x (without xs i),
  waiting_without xs i (omega (arith, inside)),
)

-- a last card that is marked passes
pub mark_passes : (v : List (List ℕ)) (bits i u : ℕ) (test : List ℕ → Bool) → Mark bits v test → last_of (get_or v i []) ≡ Some u
    → bit_at bits u ≡ 1 → test (get_or v i []) ≡ true
mark_passes v bits i u test mark last set =
    let x : List ℕ = get_or v i [] in
    let one : ends_in bits (last_of x) ≡ true = ap (ends_in bits) last ∙ eq-eqb (bit_at bits u) 1 set in
    (and_parts (test x) (has_last (last_of x)) (sym (mark.each i (last_there v i u last)) ∙ one)).0
