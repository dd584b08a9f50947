-- A list of cards in which no card stands twice, and one doesn't stand, has less than 52.
use Rattle.std.proofs.Common.{◌≡◌, ℕ, zero, suc, ◌+◌, ◌≤◌, ◌<◌, List, [], ◌∷◌, length, cond, eqb, ltb, refl, ◌∙◌, ap, ⊎_elim, add-one, arith}
use Rattle.std.specs.Prelude.{count_by}
use Rattle.std.proofs.lemmas.List.Sums.{sum_by-cons}
use Rattle.std.proofs.lemmas.Bool.{cases_lt, cases_eq}
use Rattle.std.proofs.lemmas.Bool.Decides.{nat_tests}
use Rattle.fc_position.specs.Board.{count_in_column}

-- how many cards of a list have numbers below n
abbrev count_below : ℕ → List ℕ → ℕ
count_below n cards = count_by (λ x. ltb x n) cards

one_below : (n x : ℕ) → cond (ltb x (n + 1)) 1 0 ≡ cond (ltb x n) 1 0 + cond (eqb x n) 1 0
one_below n x = grind (arith, nat_tests)

count_below-add : (n : ℕ) (cards : List ℕ) → count_below (n + 1) cards ≡ count_below n cards + count_in_column n cards
count_below-add n [] = refl
count_below-add n (x ∷ xs) =
    omega (
      arith,
      sum_by-cons (λ y. cond (ltb y (n + 1)) 1 0) x xs,
      sum_by-cons (λ y. cond (ltb y n) 1 0) x xs,
      sum_by-cons (λ y. cond (eqb y n) 1 0) x xs,
      one_below n x,
      count_below-add n xs,
    )

-- no card below zero
count_below-zero : (cards : List ℕ) → count_below 0 cards ≡ 0
count_below-zero [] = refl
count_below-zero (x ∷ xs) =
    let none : ◌≡◌ {A = ℕ} (cond (ltb x 0) 1 0) 0 = grind (arith, nat_tests) in
    omega (arith, sum_by-cons (λ y. cond (ltb y 0) 1 0) x xs, none, count_below-zero xs)

count_below-le : (cards : List ℕ) → ((c : ℕ) → count_in_column c cards ≤ 1) → (n : ℕ) → count_below n cards ≤ n
count_below-le cards once zero = omega (arith, count_below-zero cards)
count_below-le cards once (suc n) =
    let next = count_below-add n cards in
    let most = once n in
    let before = count_below-le cards once n in
    rw (← add-one n) (omega arith)

-- one card below n doesn't stand
count_below-lt : (cards : List ℕ) → ((c : ℕ) → count_in_column c cards ≤ 1) → (u : ℕ) → count_in_column u cards ≡ 0
    → (n : ℕ) → u < n → count_below n cards < n
count_below-lt cards once u none zero above = absurd (omega arith)
count_below-lt cards once u none (suc n) above =
    let next = count_below-add n cards in
    ⊎_elim
    (λ same. let gone : count_in_column n cards ≡ 0 = ap (λ k. count_in_column k cards) same ∙ none in
    let before = count_below-le cards once n in rw (← add-one n) (omega arith))
    (λ other. let most = once n in
    let before = count_below-lt cards once u none n (omega arith) in rw (← add-one n) (omega arith))
    (cases_eq n u)

-- where no number from n on stands, all of them are below n
count_below-all : (n : ℕ) (cards : List ℕ) → ((c : ℕ) → n ≤ c → count_in_column c cards ≡ 0) → count_below n cards ≡ length cards
count_below-all n [] none = refl
count_below-all n (x ∷ xs) none =
    let rest : (c : ℕ) → n ≤ c → count_in_column c xs ≡ 0 =
    λ c above. omega (arith, sum_by-cons (λ y. cond (eqb y c) 1 0) x xs, none c above) in
    let all = count_below-all n xs rest in
    let here : ◌≡◌ {A = ℕ} (cond (eqb x x) 1 0) 1 = grind (arith, nat_tests) in
    let first : ◌≡◌ {A = ℕ} (cond (ltb x n) 1 0) 1 =
    ⊎_elim (λ lt. grind (arith, nat_tests))
    (λ le. absurd (omega (arith, sum_by-cons (λ y. cond (eqb y x) 1 0) x xs, none x le, here)))
    (cases_lt x n) in
    omega (arith, sum_by-cons (λ y. cond (ltb y n) 1 0) x xs, first, all)

-- so there are less than n cards
pub room_for_one : (n : ℕ) (cards : List ℕ) → ((c : ℕ) → count_in_column c cards ≤ 1)
    → ((c : ℕ) → n ≤ c → count_in_column c cards ≡ 0) → (u : ℕ) → u < n → count_in_column u cards ≡ 0 → length cards < n
room_for_one n cards once none u below gone =
    omega (arith, count_below-all n cards none, count_below-lt cards once u gone n below)
