-- The cards in cells and those at home, gathered card by card.
use Rattle.std.proofs.Common.{◌≡◌, ℕ, zero, suc, ◌+◌, ◌-◌, ◌<◌, ◌≤◌, Bool, true, List, [], ◌∷◌, ◌++◌, length, map, set, get_or, cond, eqb, refl, sym, ◌∙◌, ap, ⊎_elim, arith}
use Rattle.std.specs.Prelude.{filter, ◌&&◌, slice_index}
use Rattle.std.specs.List.{range_with_len}
use Rattle.std.proofs.lemmas.List.{get_or-set_same, get_or-set_other, length-set, length-append, ext_get_or}
use Rattle.std.proofs.lemmas.List.Elements.{filter-append}
use Rattle.std.proofs.lemmas.List.FromFn.{length-range_with_len}
use Rattle.std.proofs.lemmas.List.Sums.{sum_by_push, count_by-le-length}
use Rattle.std.proofs.lemmas.Bool.{cases_eq}
use Rattle.std.proofs.lemmas.Bool.Decides.{nat_tests}
use Rattle.fc_cards.specs.Card.{suit, all_cards}
use Rattle.fc_codes.specs.Spelled.{cell_cards}
use Rattle.fc_codes.specs.inner.Seats.{home_among}

range-split : (a n m : ℕ) → range_with_len a (n + m) ≡ range_with_len a n ++ range_with_len (a + n) m
range-split a zero m =
    let none : zero + m ≡ m = omega arith in
    let same : a ≡ a + zero = omega arith in
    ap (range_with_len a) none ∙ ap (λ k. range_with_len k m) same
range-split a (suc n) m =
    let next : suc n + m ≡ suc (n + m) = omega arith in
    let same : (a + 1) + n ≡ a + suc n = omega arith in
    ap (range_with_len a) next ∙ ap (λ l. a ∷ l) (range-split (a + 1) n m)
    ∙ ap (λ k. a ∷ (range_with_len (a + 1) n ++ range_with_len k m)) same

pub range-more : (n : ℕ) → range_with_len 0 (n + 1) ≡ range_with_len 0 n ++ n ∷ []
range-more n =
    let same : 0 + n ≡ n = omega arith in
    range-split 0 n 1 ∙ ap (λ k. range_with_len 0 n ++ k ∷ []) same

-- a number that passes is one more than those before it
room : (p : ℕ → Bool) (n most : ℕ) → n < most → p n ≡ true
    → length (filter p (range_with_len 0 n)) < length (filter p (range_with_len 0 most))
room p n most lt passes =
    let size : most ≡ (n + 1) + (most - (n + 1)) = omega arith in
    let all : filter p (range_with_len 0 most)
    ≡ (filter p (range_with_len 0 n) ++ n ∷ []) ++ filter p (range_with_len (0 + (n + 1)) (most - (n + 1))) =
    ap (λ k. filter p (range_with_len 0 k)) size ∙ ap (filter p) (range-split 0 (n + 1) (most - (n + 1)))
    ∙ filter-append p (range_with_len 0 (n + 1)) (range_with_len (0 + (n + 1)) (most - (n + 1)))
    ∙ ap (λ l. l ++ filter p (range_with_len (0 + (n + 1)) (most - (n + 1))))
    (ap (filter p) (range-more n) ∙ filter-append p (range_with_len 0 n) (n ∷ [])
    ∙ ap (λ t. filter p (range_with_len 0 n) ++ cond t (n ∷ []) []) passes) in
    omega (
      arith,
      ap length all,
      length-append (filter p (range_with_len 0 n) ++ n ∷ []) (filter p (range_with_len (0 + (n + 1)) (most - (n + 1)))),
      length-append (filter p (range_with_len 0 n)) (n ∷ []),
    )

pub room_cells : (code : List ℕ) (n : ℕ) → n < 52 → length (cell_cards code) ≤ 4 → slice_index code n ≡ 2
    → length (filter (λ c. eqb (slice_index code c) 2) (range_with_len 0 n)) < 4
unfolding cell_cards all_cards
room_cells code n below few at =
    let more = room (λ c. eqb (slice_index code c) 2) n 52 below (grind (arith, nat_tests)) in omega (arith, few, more)

-- one of four counts
four_at : (f : ℕ → ℕ) (u : ℕ) → u < 4 → get_or (map f (0 ∷ 1 ∷ 2 ∷ 3 ∷ [])) u 0 ≡ f u
four_at f zero below = refl
four_at f (suc zero) below = refl
four_at f (suc (suc zero)) below = refl
four_at f (suc (suc (suc zero))) below = refl
four_at f (suc (suc (suc (suc u)))) below = absurd (omega arith)

pub room_home : (code : List ℕ) (n u : ℕ) (homes : List ℕ) → n < 52 → u < 4
    → homes ≡ map (home_among code (range_with_len 0 n)) (0 ∷ 1 ∷ 2 ∷ 3 ∷ []) → slice_index homes u < 255
room_home code n u homes below four e =
    let at = ap (λ l. get_or l u 0) e ∙ four_at (home_among code (range_with_len 0 n)) u four in
    let few = count_by-le-length (λ c. (eqb (suit c) u) && (eqb (slice_index code c) 1)) (range_with_len 0 n) in
    omega (arith, at, few, length-range_with_len 0 n, below)

pub home_more : (code cards : List ℕ) (n : ℕ) (u : ℕ)
    → home_among code (cards ++ n ∷ []) u ≡ home_among code cards u + cond ((eqb (suit n) u) && (eqb (slice_index code n) 1)) 1 0
home_more code cards n u = sum_by_push (λ c. cond ((eqb (suit c) u) && (eqb (slice_index code c) 1)) 1 0) cards n

-- with one card more, one count is one more, or none
pub homes_more : (code cards homes new : List ℕ) (n : ℕ) → homes ≡ map (home_among code cards) (0 ∷ 1 ∷ 2 ∷ 3 ∷ [])
    → new ≡ cond (eqb (slice_index code n) 1) (set homes (suit n) (get_or homes (suit n) 0 + 1)) homes
    → new ≡ map (home_among code (cards ++ n ∷ [])) (0 ∷ 1 ∷ 2 ∷ 3 ∷ [])
homes_more code cards homes new n before after =
    let four : length homes ≡ 4 = ap length before in
    let long : length new ≡ 4 =
    ⊎_elim
    (λ yes_. let is : new ≡ set homes (suit n) (get_or homes (suit n) 0 + 1) = after ∙ grind (arith, nat_tests) in
    ap length is ∙ length-set homes (suit n) (get_or homes (suit n) 0 + 1) ∙ four)
    (λ no_. let is : new ≡ homes = after ∙ grind (arith, nat_tests) in ap length is ∙ four)
    (cases_eq (slice_index code n) 1) in
    ext_get_or 0 new (map (home_among code (cards ++ n ∷ [])) (0 ∷ 1 ∷ 2 ∷ 3 ∷ [])) long
    (λ u inside. let below : u < 4 = omega (arith, long, inside) in
    let was : get_or homes u 0 ≡ home_among code cards u = ap (λ l. get_or l u 0) before ∙ four_at (home_among code cards) u below in
    let more = home_more code cards n u in
    let at = four_at (home_among code (cards ++ n ∷ [])) u below in
    ⊎_elim
    (λ yes_. let is : new ≡ set homes (suit n) (get_or homes (suit n) 0 + 1) = after ∙ grind (arith, nat_tests) in
    ⊎_elim
    (λ same. let here : get_or new u 0 ≡ get_or homes (suit n) 0 + 1 =
    ap (λ l. get_or l u 0) is ∙ ap (λ k. get_or (set homes (suit n) (get_or homes (suit n) 0 + 1)) k 0) same
    ∙ get_or-set_same homes (suit n) (get_or homes (suit n) 0 + 1) 0 (omega (arith, four)) in
    let one : ◌≡◌ {A = ℕ} (cond ((eqb (suit n) u) && (eqb (slice_index code n) 1)) 1 0) 1 = grind (arith, nat_tests) in
    let old : get_or homes (suit n) 0 ≡ get_or homes u 0 = ap (λ k. get_or homes k 0) (sym same) in
    omega (arith, here, one, old, was, more, at))
    (λ other. let here : get_or new u 0 ≡ get_or homes u 0 =
    ap (λ l. get_or l u 0) is ∙ get_or-set_other homes (suit n) u (get_or homes (suit n) 0 + 1) 0 other in
    let none : ◌≡◌ {A = ℕ} (cond ((eqb (suit n) u) && (eqb (slice_index code n) 1)) 1 0) 0 = grind (arith, nat_tests) in
    omega (arith, here, none, was, more, at))
    (cases_eq u (suit n)))
    (λ no_. let is : new ≡ homes = after ∙ grind (arith, nat_tests) in
    let here = ap (λ l. get_or l u 0) is in
    let none : ◌≡◌ {A = ℕ} (cond ((eqb (suit n) u) && (eqb (slice_index code n) 1)) 1 0) 0 = grind (arith, nat_tests) in
    omega (arith, here, none, was, more, at))
    (cases_eq (slice_index code n) 1))
