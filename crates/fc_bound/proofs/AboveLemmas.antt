-- Cards that stand above a lower card of their own suit.
use Rattle.std.proofs.Common.{◌≡◌, ◌≢◌, ℕ, ◌+◌, ◌<◌, ◌≤◌, Bool, true, false, cond, List, [], ◌∷◌, ◌++◌, length, get_or, set, take, refl, sym, ◌∙◌, ap, subst, ⊎_elim, arith, Contains}
use Rattle.std.specs.Prelude.{◌==◌, ◌&&◌, ◌||◌, nat_lt, count_by, slice_index}
use Rattle.std.specs.List.{list_any}
use Rattle.std.proofs.lemmas.Bool.{cases_eq, eq-eqb, eqb-true}
use Rattle.std.proofs.lemmas.List.{get_or-set_same, get_or-set_other, get_or-replicate, length-set, take_more}
use Rattle.std.proofs.lemmas.Bool.Decides.{nat_tests}
use Rattle.std.proofs.lemmas.List.Folds.{list_any-append, list_any_at, Any-from_list_any}
use Rattle.std.proofs.lemmas.List.Sums.{sum_by-cons, sum_by_push, sum_by-take-le}
use Rattle.fc_cards.specs.Card.{rank, suit, all_cards}
use Rattle.fc_position.specs.Board.{count_in_column}
use Rattle.fc_bound.specs.Bound.{is_lower, stands_in, is_above_lower}
use Rattle.fc_bound.proofs.CountLemmas.{count-but_one, count-none}

-- tests of tests
pub and-false : (p : Bool) → (p && false) ≡ false
and-false p = elim p as (λ t. (t && false) ≡ false) [ true ↦ refl | false ↦ refl ]

pub or-false : (p : Bool) → (p || false) ≡ p
or-false p = elim p as (λ t. (t || false) ≡ t) [ true ↦ refl | false ↦ refl ]

pub and-true : (p : Bool) → (p && true) ≡ p
and-true p = elim p as (λ t. (t && true) ≡ t) [ true ↦ refl | false ↦ refl ]

pub or-true : (p : Bool) → (p || true) ≡ true
or-true p = elim p as (λ t. (t || true) ≡ true) [ true ↦ refl | false ↦ refl ]

pub not_true : (p : Bool) → (p ≡ true → ⊥) → p ≡ false
not_true p h = elim p as (λ t. (t ≡ true → ⊥) → t ≡ false) [ true ↦ λ k. absurd (k refl) | false ↦ λ _. refl ] h

-- a card that is put on others
pub stands-more : (cards : List ℕ) (u c : ℕ) → stands_in (cards ++ u ∷ []) c ≡ (stands_in cards c || (u == c))
stands-more cards u c =
    list_any-append (λ d. d == c) cards (u ∷ []) ∙ ap (λ t. stands_in cards c || t) (or-false (u == c))

pub stands-other : (cards : List ℕ) (u c : ℕ) → u ≢ c → stands_in (cards ++ u ∷ []) c ≡ stands_in cards c
stands-other cards u c other =
    let test : (u == c) ≡ false = grind (arith, nat_tests) in
    stands-more cards u c ∙ ap (λ t. stands_in cards c || t) test ∙ or-false (stands_in cards c)

stands-top : (cards : List ℕ) (c : ℕ) → stands_in (cards ++ c ∷ []) c ≡ true
stands-top cards c =
    let test : (c == c) ≡ true = grind (arith, nat_tests) in
    stands-more cards c c ∙ ap (λ t. stands_in cards c || t) test ∙ or-true (stands_in cards c)

-- a card that is put on a column changes nothing for the others
pub above-other : (c u : ℕ) (cards : List ℕ) → u ≢ c → is_above_lower c (cards ++ u ∷ []) ≡ is_above_lower c cards
above-other c u [] other = or-false (is_lower c u && false) ∙ and-false (is_lower c u)
above-other c u (d ∷ above) other =
    ap (λ t. (is_lower c d && t) || is_above_lower c (above ++ u ∷ [])) (stands-other above u c other)
    ∙ ap (λ t. (is_lower c d && stands_in above c) || t) (above-other c u above other)

-- it stands above every lower card of its suit in the column
pub above-top : (c : ℕ) (cards : List ℕ) → is_above_lower c (cards ++ c ∷ []) ≡ list_any (is_lower c) cards
above-top c [] = or-false (is_lower c c && false) ∙ and-false (is_lower c c)
above-top c (d ∷ above) =
    ap (λ t. (is_lower c d && t) || is_above_lower c (above ++ c ∷ [])) (stands-top above c)
    ∙ ap (λ t. t || is_above_lower c (above ++ c ∷ [])) (and-true (is_lower c d))
    ∙ ap (λ t. is_lower c d || t) (above-top c above)

-- a card stands among cards exactly where they contain it
pub contains-stands : (cards : List ℕ) (c : ℕ) → Contains cards c → stands_in cards c ≡ true
contains-stands cards c (k, below, e) = list_any_at (λ d. d == c) cards k c below (eq-eqb (get_or cards k c) c e)

pub stands-contains : (cards : List ℕ) (c : ℕ) → stands_in cards c ≡ true → Contains cards c
stands-contains cards c stands =
    let (k, d, below, e, same) = Any-from_list_any (λ d. d == c) cards stands in
    subst (Contains cards) (eqb-true d c same) (k, below, e)

-- a card that stands in a column is counted there
pub stands-counted : (cards : List ℕ) (c : ℕ) → stands_in cards c ≡ true → 1 ≤ count_in_column c cards
stands-counted [] c stands = absurd (cc)
stands-counted (d ∷ cards) c stands =
    let first = sum_by-cons (λ x. cond (x == c) 1 0) d cards in
    elim (d == c) as (λ t. (d == c) ≡ t → (t || stands_in cards c) ≡ true → 1 ≤ count_in_column c (d ∷ cards)) [
      | true ↦ λ e _. let one : ◌≡◌ {A = ℕ} (cond (d == c) 1 0) 1 = ap (λ t. cond t 1 0) e in omega arith
      | false ↦ λ e later. let rest = stands-counted cards c later in omega arith
    ] refl stands

-- a card above a lower one stands there, and so does the lower one
pub record AboveOne (c : ℕ) (cards : List ℕ) : Type 0 where
  pub lower : ℕ
  pub is_lower : is_lower c lower ≡ true
  pub stands : stands_in cards c ≡ true
  pub lower_stands : stands_in cards lower ≡ true

pub above-one : (c : ℕ) (cards : List ℕ) → is_above_lower c cards ≡ true → AboveOne c cards
above-one c [] above = absurd (cc)
above-one c (d ∷ cards) above =
    let later : is_above_lower c cards ≡ true → AboveOne c (d ∷ cards) = λ h.
    let one = above-one c cards h in
    record {
      lower = one.lower;
      is_lower = one.is_lower;
      stands = ap (λ t. (d == c) || t) one.stands ∙ or-true (d == c);
      lower_stands = ap (λ t. (d == one.lower) || t) one.lower_stands ∙ or-true (d == one.lower);
    } in
    let same : (d == d) ≡ true = grind (arith, nat_tests) in
    elim (is_lower c d) as (λ t. is_lower c d ≡ t → ((t && stands_in cards c) || is_above_lower c cards) ≡ true → AboveOne c (d ∷ cards)) [
      | true ↦ λ low here. elim (stands_in cards c) as (λ t. stands_in cards c ≡ t → (t || is_above_lower c cards) ≡ true → AboveOne c (d ∷ cards)) [
        | true ↦ λ stands _. record {
          lower = d;
          is_lower = low;
          stands = ap (λ t. (d == c) || t) stands ∙ or-true (d == c);
          lower_stands = ap (λ t. t || stands_in cards d) same;
        }
        | false ↦ λ _ h. later h
      ] refl here
      | false ↦ λ _ h. later h
    ] refl above

-- what is told of the cards so far: for each card whether a lower one of its suit is among them, by the least rank of
-- each suit
abbrev pub Tells : List ℕ → List ℕ → Type 0
Tells least seen = (x : ℕ) → x < 52 → list_any (is_lower x) seen ≡ nat_lt (slice_index least (suit x)) (rank x)

pub lower-more : (x y : ℕ) (seen : List ℕ) → list_any (is_lower x) (seen ++ y ∷ []) ≡ (list_any (is_lower x) seen || is_lower x y)
lower-more x y seen =
    list_any-append (is_lower x) seen (y ∷ []) ∙ ap (λ t. list_any (is_lower x) seen || t) (or-false (is_lower x y))

-- nothing is told at first
pub tells-none : Tells (14 ∷ 14 ∷ 14 ∷ 14 ∷ []) []
tells-none x below =
    let four : slice_index (14 ∷ 14 ∷ 14 ∷ 14 ∷ []) (suit x) ≡ 14 = get_or-replicate 4 (suit x) 14 0 (omega arith) in
    let test : nat_lt 14 (rank x) ≡ false = grind (arith, nat_tests) in
    sym (ap (λ n. nat_lt n (rank x)) four ∙ test)

-- the tests of one more card, as numbers
kept_test : (l lx ry rx sy sx : ℕ) → l < ry → (sy ≡ sx → lx ≡ l)
    → (nat_lt lx rx || ((sy == sx) && nat_lt ry rx)) ≡ nat_lt lx rx
kept_test l lx ry rx sy sx above same =
    ⊎_elim (λ e. let one = same e in grind (arith, nat_tests)) (λ ne. grind (arith, nat_tests)) (cases_eq sy sx)

lower_test : (l lx now ry rx sy sx : ℕ) → ry ≤ l → (sy ≡ sx → lx ≡ l) → (sy ≡ sx → now ≡ ry) → (sy ≢ sx → now ≡ lx)
    → (nat_lt lx rx || ((sy == sx) && nat_lt ry rx)) ≡ nat_lt now rx
lower_test l lx now ry rx sy sx lower same here there =
    ⊎_elim (λ e. let one = same e in let two = here e in grind (arith, nat_tests))
    (λ ne. let two = there ne in grind (arith, nat_tests)) (cases_eq sy sx)

-- a card above a lower one tells nothing new
pub tells-kept : (least seen : List ℕ) (y : ℕ) → Tells least seen → slice_index least (suit y) < rank y
    → Tells least (seen ++ y ∷ [])
tells-kept least seen y tells above x below =
    lower-more x y seen ∙ ap (λ t. t || is_lower x y) (tells x below)
    ∙ kept_test (slice_index least (suit y)) (slice_index least (suit x)) (rank y) (rank x) (suit y) (suit x) above
    (λ e. ap (slice_index least) (sym e))

-- any other card is the least of its suit so far
pub tells-lower : (least seen : List ℕ) (y : ℕ) → length least ≡ 4 → Tells least seen → rank y ≤ slice_index least (suit y)
    → Tells (set least (suit y) (rank y)) (seen ++ y ∷ [])
tells-lower least seen y four tells lower x below =
    let inside : suit y < length least = omega arith in
    lower-more x y seen ∙ ap (λ t. t || is_lower x y) (tells x below)
    ∙ lower_test (slice_index least (suit y)) (slice_index least (suit x)) (slice_index (set least (suit y) (rank y)) (suit x))
    (rank y) (rank x) (suit y) (suit x) lower (λ e. ap (slice_index least) (sym e))
    (λ e. ap (slice_index (set least (suit y) (rank y))) (sym e) ∙ get_or-set_same least (suit y) (rank y) 0 inside)
    (λ ne. get_or-set_other least (suit y) (suit x) (rank y) 0 (λ e. ne (sym e)))

-- one more card, which isn't among those so far: it counts where a lower card of its suit is
pub above-more : (seen : List ℕ) (y : ℕ) → y < 52 → count_in_column y (seen ++ y ∷ []) ≤ 1
    → count_by (λ c. is_above_lower c (seen ++ y ∷ [])) all_cards
    ≡ count_by (λ c. is_above_lower c seen) all_cards + cond (list_any (is_lower y) seen) 1 0
above-more seen y below once =
    let one : ◌≡◌ {A = ℕ} (cond (y == y) 1 0) 1 = grind (arith, nat_tests) in
    let absent : is_above_lower y seen ≡ false = not_true (is_above_lower y seen) (λ h.
    omega (arith, stands-counted seen y (above-one y seen h).stands, sum_by_push (λ x. cond (x == y) 1 0) seen y, once, one)) in
    let change = count-but_one y (λ c. is_above_lower c (seen ++ y ∷ [])) (λ c. is_above_lower c seen) below
    (λ c other. above-other c y seen (λ e. other (sym e))) in
    let before : ◌≡◌ {A = ℕ} (cond (is_above_lower y seen) 1 0) 0 = ap (λ t. cond t 1 0) absent in
    let after : ◌≡◌ {A = ℕ} (cond (is_above_lower y (seen ++ y ∷ [])) 1 0) (cond (list_any (is_lower y) seen) 1 0) =
    ap (λ t. cond t 1 0) (above-top y seen) in
    omega arith

-- what the loop over a column keeps: the least ranks so far, and how many cards stand above a lower one so far
pub record Seen (least : List ℕ) (count : ℕ) (seen : List ℕ) : Type 0 where
  pub suits : length least ≡ 4
  pub tells : Tells least seen
  pub counts : count ≡ count_by (λ c. is_above_lower c seen) all_cards

pub seen-none : Seen (14 ∷ 14 ∷ 14 ∷ 14 ∷ []) 0 []
seen-none = record {
  suits = refl;
  tells = tells-none;
  counts = sym (count-none (λ c. is_above_lower c []) (λ c below. refl));
}

pub seen-above : (least seen : List ℕ) (count y : ℕ) → Seen least count seen → y < 52 → count_in_column y (seen ++ y ∷ []) ≤ 1
    → slice_index least (suit y) < rank y → Seen least (count + 1) (seen ++ y ∷ [])
seen-above least seen count y s below once above = record {
  suits = s.suits;
  tells = tells-kept least seen y s.tells above;
  counts =
      let lower : list_any (is_lower y) seen ≡ true =
      let test : nat_lt (slice_index least (suit y)) (rank y) ≡ true = grind (arith, nat_tests) in s.tells y below ∙ test in
      let one : ◌≡◌ {A = ℕ} (cond (list_any (is_lower y) seen) 1 0) 1 = ap (λ t. cond t 1 0) lower in
      omega (arith, s.counts, above-more seen y below once);
}

pub seen-lower : (least seen : List ℕ) (count y : ℕ) → Seen least count seen → y < 52 → count_in_column y (seen ++ y ∷ []) ≤ 1
    → rank y ≤ slice_index least (suit y) → Seen (set least (suit y) (rank y)) count (seen ++ y ∷ [])
seen-lower least seen count y s below once lower = record {
  suits = length-set least (suit y) (rank y) ∙ s.suits;
  tells = tells-lower least seen y s.suits s.tells lower;
  counts =
      let none : list_any (is_lower y) seen ≡ false =
      let test : nat_lt (slice_index least (suit y)) (rank y) ≡ false = grind (arith, nat_tests) in s.tells y below ∙ test in
      let zero_more : ◌≡◌ {A = ℕ} (cond (list_any (is_lower y) seen) 1 0) 0 = ap (λ t. cond t 1 0) none in
      omega (arith, s.counts, above-more seen y below once);
}

-- the cards up to the next one
pub next_seen : (cards : List ℕ) (i y : ℕ) → i < length cards → y ≡ get_or cards i y → take (i + 1) cards ≡ take i cards ++ y ∷ []
next_seen cards i y inside is = take_more cards i y inside ∙ ap (λ x. take i cards ++ x ∷ []) (sym is)

pub next_once : (cards : List ℕ) (i y : ℕ) → i < length cards → y ≡ get_or cards i y → ((c : ℕ) → count_in_column c cards ≤ 1)
    → count_in_column y (take i cards ++ y ∷ []) ≤ 1
next_once cards i y inside is once =
    subst (λ seen. count_in_column y seen ≤ 1) (next_seen cards i y inside is)
    (omega (arith, sum_by-take-le (λ x. cond (x == y) 1 0) cards (i + 1), once y))

-- one turn of the loop, at a card above a lower one of its suit and at any other
pub turn_above : (cards least now : List ℕ) (i count more y s r : ℕ) → Seen least count (take i cards) → i < length cards
    → y ≡ get_or cards i y → ((c : ℕ) → count_in_column c cards ≤ 1) → s ≡ suit y → r ≡ rank y → r ≤ 13
    → get_or least s 0 < r → now ≡ least → more ≡ count + 1 → Seen now more (take (i + 1) cards)
turn_above cards least now i count more y s r seen inside is once suits ranks most above same counts =
    let higher : slice_index least (suit y) < rank y = subst (λ k. get_or least k 0 < rank y) suits (subst (λ k. get_or least s 0 < k) ranks above) in
    let next = seen-above least (take i cards) count y seen (omega arith) (next_once cards i y inside is once) higher in
    subst (λ l. Seen l more (take (i + 1) cards)) (sym same) (subst (λ n. Seen least n (take (i + 1) cards)) (sym counts)
    (subst (Seen least (count + 1)) (sym (next_seen cards i y inside is)) next))

pub turn_lower : (cards least now : List ℕ) (i count more y s r : ℕ) → Seen least count (take i cards) → i < length cards
    → y ≡ get_or cards i y → ((c : ℕ) → count_in_column c cards ≤ 1) → s ≡ suit y → r ≡ rank y → r ≤ 13
    → r ≤ get_or least s 0 → now ≡ set least s r → more ≡ count → Seen now more (take (i + 1) cards)
turn_lower cards least now i count more y s r seen inside is once suits ranks most lower changed same =
    let least_now : rank y ≤ slice_index least (suit y) = subst (λ k. rank y ≤ get_or least k 0) suits (subst (λ k. k ≤ get_or least s 0) ranks lower) in
    let next = seen-lower least (take i cards) count y seen (omega arith) (next_once cards i y inside is once) least_now in
    let set_now : now ≡ set least (suit y) (rank y) = changed ∙ ap (λ k. set least k r) suits ∙ ap (set least (suit y)) ranks in
    subst (λ l. Seen l more (take (i + 1) cards)) (sym set_now) (subst (λ n. Seen (set least (suit y) (rank y)) n (take (i + 1) cards)) (sym same)
    (subst (Seen (set least (suit y) (rank y)) count) (sym (next_seen cards i y inside is)) next))
