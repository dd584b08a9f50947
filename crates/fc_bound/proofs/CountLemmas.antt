-- Counts over the cards: what one card changes, and what adds up.
use Rattle.std.proofs.Common.{◌≡◌, ◌≢◌, ℕ, ◌+◌, ◌-◌, ◌*◌, ◌<◌, ◌≤◌, zero, suc, Bool, false, cond, List, [], refl, ◌∙◌, ap, subst, ⊎_elim, arith}
use Rattle.std.specs.Prelude.{nat_lt, sum_by, count_by, slice_index}
use Rattle.std.specs.List.{range_with_len}
use Rattle.std.proofs.lemmas.Bool.{cases_eq}
use Rattle.std.proofs.lemmas.Bool.Decides.{nat_tests}
use Rattle.std.proofs.lemmas.List.FromFn.{length-range_with_len}
use Rattle.std.proofs.lemmas.List.Sums.{sum_by-cons, count_by-le-length}
use Rattle.fc_cards.specs.Card.{rank, suit, all_cards}

-- what is the same at each number of a range adds up to the same
sum-same : (f h : ℕ → ℕ) (a n : ℕ) → ((x : ℕ) → a ≤ x → x < a + n → f x ≡ h x)
    → sum_by f (range_with_len a n) ≡ sum_by h (range_with_len a n)
sum-same f h a zero same = refl
sum-same f h a (suc n) same =
    let head = same a (omega arith) (omega arith) in
    let tail = sum-same f h (a + 1) n (λ x from below. same x (omega arith) (omega arith)) in
    omega (arith, sum_by-cons f a (range_with_len (a + 1) n), sum_by-cons h a (range_with_len (a + 1) n), head, tail)

-- what is the same at each number of a range but one differs by as much as it does there
sum-but_one : (f h : ℕ → ℕ) (a n u : ℕ) → a ≤ u → u < a + n → ((x : ℕ) → x ≢ u → f x ≡ h x)
    → sum_by f (range_with_len a n) + h u ≡ sum_by h (range_with_len a n) + f u
sum-but_one f h a zero u from below same = absurd (omega arith)
sum-but_one f h a (suc n) u from below same =
    ⊎_elim
    (λ e.
    let tail = sum-same f h (a + 1) n (λ x past within. same x (λ q. omega (arith, q, e))) in
    let one = ap f e in
    let two = ap h e in
    omega (arith, sum_by-cons f a (range_with_len (a + 1) n), sum_by-cons h a (range_with_len (a + 1) n), tail, one, two))
    (λ ne.
    let head = same a ne in
    let tail = sum-but_one f h (a + 1) n u (omega (arith, ne)) (omega arith) same in
    omega (arith, sum_by-cons f a (range_with_len (a + 1) n), sum_by-cons h a (range_with_len (a + 1) n), head, tail))
    (cases_eq a u)

-- what adds up at each number of a range adds up over it
sum-of_two : (f h k : ℕ → ℕ) (a n : ℕ) → ((x : ℕ) → a ≤ x → x < a + n → f x ≡ h x + k x)
    → sum_by f (range_with_len a n) ≡ sum_by h (range_with_len a n) + sum_by k (range_with_len a n)
sum-of_two f h k a zero adds = refl
sum-of_two f h k a (suc n) adds =
    let head = adds a (omega arith) (omega arith) in
    let tail = sum-of_two f h k (a + 1) n (λ x from below. adds x (omega arith) (omega arith)) in
    omega (
      arith,
      sum_by-cons f a (range_with_len (a + 1) n),
      sum_by-cons h a (range_with_len (a + 1) n),
      sum_by-cons k a (range_with_len (a + 1) n),
      head,
      tail,
    )

-- the same of counts over all cards
pub count-same_of : (n : ℕ) (p q : ℕ → Bool) → ((x : ℕ) → x < n → p x ≡ q x)
    → count_by p (range_with_len 0 n) ≡ count_by q (range_with_len 0 n)
count-same_of n p q same =
    sum-same (λ x. cond (p x) 1 0) (λ x. cond (q x) 1 0) 0 n (λ x from below. ap (λ t. cond t 1 0) (same x (omega arith)))

pub count-same : (p q : ℕ → Bool) → ((x : ℕ) → x < 52 → p x ≡ q x) → count_by p all_cards ≡ count_by q all_cards
unfolding all_cards
count-same p q same = count-same_of 52 p q same

pub count-but_one_of : (n u : ℕ) (p q : ℕ → Bool) → u < n → ((x : ℕ) → x ≢ u → p x ≡ q x)
    → count_by p (range_with_len 0 n) + cond (q u) 1 0 ≡ count_by q (range_with_len 0 n) + cond (p u) 1 0
count-but_one_of n u p q below same =
    sum-but_one (λ x. cond (p x) 1 0) (λ x. cond (q x) 1 0) 0 n u (omega arith) (omega arith)
    (λ x other. ap (λ t. cond t 1 0) (same x other))

pub count-but_one : (u : ℕ) (p q : ℕ → Bool) → u < 52 → ((x : ℕ) → x ≢ u → p x ≡ q x)
    → count_by p all_cards + cond (q u) 1 0 ≡ count_by q all_cards + cond (p u) 1 0
unfolding all_cards
count-but_one u p q below same = count-but_one_of 52 u p q below same

pub count-of_two_of : (n : ℕ) (p q r : ℕ → Bool) → ((x : ℕ) → x < n → cond (p x) 1 0 ≡ cond (q x) 1 0 + cond (r x) 1 0)
    → count_by p (range_with_len 0 n) ≡ count_by q (range_with_len 0 n) + count_by r (range_with_len 0 n)
count-of_two_of n p q r adds =
    sum-of_two (λ x. cond (p x) 1 0) (λ x. cond (q x) 1 0) (λ x. cond (r x) 1 0) 0 n (λ x from below. adds x (omega arith))

pub count-of_two : (p q r : ℕ → Bool) → ((x : ℕ) → x < 52 → cond (p x) 1 0 ≡ cond (q x) 1 0 + cond (r x) 1 0)
    → count_by p all_cards ≡ count_by q all_cards + count_by r all_cards
unfolding all_cards
count-of_two p q r adds = count-of_two_of 52 p q r adds

-- no more than 52 cards are counted
count-most_of : (n : ℕ) (p : ℕ → Bool) → count_by p (range_with_len 0 n) ≤ n
count-most_of n p = omega (arith, count_by-le-length p (range_with_len 0 n), length-range_with_len 0 n)

pub count-most : (p : ℕ → Bool) → count_by p all_cards ≤ 52
unfolding all_cards
count-most p = count-most_of 52 p

-- none are counted where none passes
pub count-none_of : (n : ℕ) → count_by (λ x. false) (range_with_len 0 n) ≡ 0
count-none_of n = none 0 n
  where
    none : (a n : ℕ) → sum_by (λ (x : ℕ). 0) (range_with_len a n) ≡ 0
    none a zero = refl
    none a (suc n) = sum_by-cons (λ x. 0) a (range_with_len (a + 1) n) ∙ ap (λ m. 0 + m) (none (a + 1) n)

pub count-none : (p : ℕ → Bool) → ((x : ℕ) → x < 52 → p x ≡ false) → count_by p all_cards ≡ 0
unfolding all_cards
count-none p fails = count-same_of 52 p (λ x. false) fails ∙ count-none_of 52

-- a sum over a range with one number more
sum-more : (f : ℕ → ℕ) (a n : ℕ) → sum_by f (range_with_len a (suc n)) ≡ sum_by f (range_with_len a n) + f (a + n)
sum-more f a zero =
    let last : f a ≡ f (a + zero) = ap f (omega arith) in omega (arith, sum_by-cons f a [], last)
sum-more f a (suc n) =
    let step = sum-more f (a + 1) n in
    let last : f (a + 1 + n) ≡ f (a + suc n) = ap f (omega arith) in
    omega (arith, sum_by-cons f a (range_with_len (a + 1) (suc n)), sum_by-cons f a (range_with_len (a + 1) n), step, last)

-- what the card of a rank and a suit adds to the cards that are not home
abbrev away_at : List ℕ → ℕ → ℕ
away_at homes c = cond (nat_lt (slice_index homes (suit c)) (rank c)) 1 0

away-more : (homes : List ℕ) (n s c : ℕ) → s < 4 → c ≡ 4 * n + s
    → (n - slice_index homes s) + away_at homes c ≡ suc n - slice_index homes s
away-more homes n s c below is =
    let suits : suit c ≡ s = omega arith in
    let ranks : rank c ≡ suc n = omega arith in
    let first : away_at homes c ≡ cond (nat_lt (slice_index homes s) (rank c)) 1 0 =
    ap (λ k. cond (nat_lt (slice_index homes k) (rank c)) 1 0) suits in
    let at : away_at homes c ≡ cond (nat_lt (slice_index homes s) (suc n)) 1 0 =
    subst (λ k. away_at homes c ≡ cond (nat_lt (slice_index homes s) k) 1 0) ranks first in
    go (slice_index homes s) n (away_at homes c) at
  where
    go : (h n x : ℕ) → x ≡ cond (nat_lt h (suc n)) 1 0 → (n - h) + x ≡ suc n - h
    go h n x at = grind (arith, nat_tests)

-- of the cards up to a rank, those are not home that no count reaches
away-ranks : (homes : List ℕ) (n : ℕ)
    → sum_by (away_at homes) (range_with_len 0 (4 * n))
    ≡ (n - slice_index homes 0) + (n - slice_index homes 1) + (n - slice_index homes 2) + (n - slice_index homes 3)
away-ranks homes zero = omega arith
away-ranks homes (suc n) =
    let f : ℕ → ℕ = away_at homes in
    let four : 4 * suc n ≡ suc (suc (suc (suc (4 * n)))) = omega arith in
    ap (λ m. sum_by (away_at homes) (range_with_len 0 m)) four ∙ omega (
      arith,
      away-ranks homes n,
      sum-more (away_at homes) 0 (4 * n),
      sum-more (away_at homes) 0 (suc (4 * n)),
      sum-more (away_at homes) 0 (suc (suc (4 * n))),
      sum-more (away_at homes) 0 (suc (suc (suc (4 * n)))),
      away-more homes n 0 (0 + 4 * n) (omega arith) (omega arith),
      away-more homes n 1 (0 + suc (4 * n)) (omega arith) (omega arith),
      away-more homes n 2 (0 + suc (suc (4 * n))) (omega arith) (omega arith),
      away-more homes n 3 (0 + suc (suc (suc (4 * n)))) (omega arith) (omega arith),
    )

-- the cards that are not home are all but those that are counted home
pub away-all : (homes : List ℕ) → count_by (λ c. nat_lt (slice_index homes (suit c)) (rank c)) all_cards
    ≡ (13 - slice_index homes 0) + (13 - slice_index homes 1) + (13 - slice_index homes 2) + (13 - slice_index homes 3)
unfolding all_cards
away-all homes = away-ranks homes 13
