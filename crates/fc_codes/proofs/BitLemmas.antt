-- Cards as bits of a word: what setting and clearing one changes, and the least one.
use Rattle.std.proofs.Common.{◌≡◌, ◌≢◌, ℕ, zero, suc, ◌+◌, ◌*◌, ◌%◌, ◌^◌, ◌<◌, ◌≤◌, bit_and, bit_or, ◌↔◌, Bool, true, false, Option, Some, None, [], ◌∷◌, cond, eqb, ltb, refl, sym, ◌∙◌, ap, subst, ⊎_elim, w64, arith}
use Rattle.std.specs.Prelude.{filter, IsSome, IfSome, IfNone}
use Rattle.std.specs.List.{range_with_len}
use Rattle.std.specs.Int.{bit_at, bit_not, trailing_zeros}
use Rattle.std.proofs.lemmas.Bool.{cases_eq, cases_lt}
use Rattle.std.proofs.lemmas.Bool.Decides.{nat_tests}
use Rattle.std.proofs.lemmas.Nat.{and_le_l}
use Rattle.std.proofs.lemmas.Nat.Bits.{bit_at_above, bit_at_clear_same, bit_at_clear_other, bit_at_set_same, bit_at_set_other, bit_at-zero, bit_at-trailing_zeros}
use lib.Count.{trailing_of_zero}
use Rattle.fc_cards.specs.Card.{all_cards}
use Rattle.fc_codes.specs.inner.Bits.{cards_of}

pub here : (c k x y : ℕ) → c ≡ k → ◌≡◌ {A = ℕ} (cond (eqb c k) x y) x
here c k x y e = grind (arith, nat_tests)

pub elsewhere : (c k x y : ℕ) → c ≢ k → ◌≡◌ {A = ℕ} (cond (eqb c k) x y) y
elsewhere c k x y ne = grind (arith, nat_tests)

pub bit_set : (n k : ℕ) → n < 2 ^ 64 → k < 64 → (d : ℕ) → bit_at (bit_or n (1 * 2 ^ k % 2 ^ 64)) d ≡ cond (eqb d k) 1 (bit_at n d)
bit_set n k small below d =
    ⊎_elim
    (λ e. ap (bit_at (bit_or n (1 * 2 ^ k % 2 ^ 64))) e ∙ bit_at_set_same w64 n k below ∙ sym (here d k 1 (bit_at n d) e))
    (λ ne. bit_at_set_other w64 n k below d ne ∙ sym (elsewhere d k 1 (bit_at n d) ne))
    (cases_eq d k)

pub bit_cleared : (n k : ℕ) → n < 2 ^ 64 → k < 64 → (d : ℕ)
    → bit_at (bit_and n (bit_not w64 (1 * 2 ^ k % 2 ^ 64))) d ≡ cond (eqb d k) 0 (bit_at n d)
bit_cleared n k small below d =
    ⊎_elim
    (λ e. ap (bit_at (bit_and n (bit_not w64 (1 * 2 ^ k % 2 ^ 64)))) e ∙ bit_at_clear_same w64 n k below
    ∙ sym (here d k 0 (bit_at n d) e))
    (λ ne. let kept : bit_at (bit_and n (bit_not w64 (1 * 2 ^ k % 2 ^ 64))) d ≡ bit_at n d =
    ⊎_elim (λ inside. bit_at_clear_other w64 n k below d inside ne)
    (λ past. let less = and_le_l n (bit_not w64 (1 * 2 ^ k % 2 ^ 64)) in
    bit_at_above (bit_and n (bit_not w64 (1 * 2 ^ k % 2 ^ 64))) 64 d
    (le_lt (bit_and n (bit_not w64 (1 * 2 ^ k % 2 ^ 64))) n (2 ^ 64) less small) past ∙ sym (bit_at_above n 64 d small past))
    (cases_lt d 64) in
    kept ∙ sym (elsewhere d k 0 (bit_at n d) ne))
    (cases_eq d k)
  where
    le_lt : (a b c : ℕ) → a ≤ b → b < c → a < c
    le_lt a b c le lt = omega arith

-- two tests that agree find the same
pub filter_same : (p q : ℕ → Bool) (n a : ℕ) → ((c : ℕ) → a ≤ c → c < a + n → p c ≡ q c)
    → filter p (range_with_len a n) ≡ filter q (range_with_len a n)
filter_same p q zero a same = refl
filter_same p q (suc n) a same =
    let rest = filter_same p q n (a + 1) (λ c from below. same c (omega (arith, from)) (omega (arith, below))) in
    ap (λ t. cond t (a ∷ filter p (range_with_len (a + 1) n)) (filter p (range_with_len (a + 1) n))) (same a (omega arith) (omega arith))
    ∙ ap (λ l. cond (q a) (a ∷ l) l) rest

filter_none : (p : ℕ → Bool) (n a : ℕ) → ((c : ℕ) → a ≤ c → c < a + n → p c ≡ false) → filter p (range_with_len a n) ≡ []
filter_none p zero a none = refl
filter_none p (suc n) a none =
    ap (λ t. cond t (a ∷ filter p (range_with_len (a + 1) n)) (filter p (range_with_len (a + 1) n))) (none a (omega arith) (omega arith))
    ∙ filter_none p n (a + 1) (λ c from below. none c (omega (arith, from)) (omega (arith, below)))

filter_least : (p q : ℕ → Bool) (n a c : ℕ) → a ≤ c → c < a + n → p c ≡ true → q c ≡ false
    → ((d : ℕ) → a ≤ d → d < c → p d ≡ false) → ((d : ℕ) → d ≢ c → q d ≡ p d)
    → filter p (range_with_len a n) ≡ c ∷ filter q (range_with_len a n)
filter_least p q zero a c from below passes gone before others = absurd (omega arith)
filter_least p q (suc n) a c from below passes gone before others =
    let rest = range_with_len (a + 1) n in
    ⊎_elim
    (λ same. let same_rest = filter_same p q n (a + 1) (λ d high low. sym (others d (omega (arith, same, high)))) in
    ap (λ t. cond t (a ∷ filter p rest) (filter p rest)) (ap p same ∙ passes) ∙ ap (λ y. y ∷ filter p rest) same
    ∙ ap (λ l. c ∷ l) (same_rest ∙ sym (ap (λ t. cond t (a ∷ filter q rest) (filter q rest)) (ap q same ∙ gone))))
    (λ other. let none = before a (omega arith) (omega (arith, from, other)) in
    ap (λ t. cond t (a ∷ filter p rest) (filter p rest)) none
    ∙ filter_least p q n (a + 1) c (omega (arith, from, other)) (omega (arith, below)) passes gone
    (λ d high low. before d (omega (arith, high)) low) others
    ∙ ap (λ l. c ∷ l) (sym (ap (λ t. cond t (a ∷ filter q rest) (filter q rest)) (others a other ∙ none))))
    (cases_eq a c)

is_set : (n : ℕ) → n ≡ 1 → eqb n 1 ≡ true
is_set n e = grind (arith, nat_tests)

is_clear : (n : ℕ) → n ≡ 0 → eqb n 1 ≡ false
is_clear n e = grind (arith, nat_tests)

pub least_first : (bits rest c : ℕ) → c < 52 → bit_at bits c ≡ 1 → ((d : ℕ) → d < c → bit_at bits d ≡ 0)
    → ((d : ℕ) → bit_at rest d ≡ cond (eqb d c) 0 (bit_at bits d)) → cards_of bits ≡ c ∷ cards_of rest
unfolding cards_of all_cards
least_first bits rest c below set least without =
    filter_least (λ d. eqb (bit_at bits d) 1) (λ d. eqb (bit_at rest d) 1) 52 0 c (omega arith) (omega (arith, below))
    (is_set (bit_at bits c) set) (is_clear (bit_at rest c) (without c ∙ here c c 0 (bit_at bits c) refl))
    (λ d from low. is_clear (bit_at bits d) (least d low))
    (λ d other. ap (λ n. eqb n 1) (without d ∙ elsewhere d c 0 (bit_at bits d) other))

pub none_first : (bits : ℕ) → ((d : ℕ) → d < 52 → bit_at bits d ≡ 0) → cards_of bits ≡ []
unfolding cards_of all_cards
none_first bits none = filter_none (λ d. eqb (bit_at bits d) 1) 52 0 (λ d from low. is_clear (bit_at bits d) (none d (omega (arith, low))))

-- bits that are set where a test passes are of the cards that pass
pub cards_tested : (bits : ℕ) (p : ℕ → Bool) → ((d : ℕ) → d < 52 → bit_at bits d ≡ cond (p d) 1 0) → cards_of bits ≡ filter p all_cards
unfolding cards_of all_cards
cards_tested bits p same =
    filter_same (λ d. eqb (bit_at bits d) 1) p 52 0 (λ d from low. ap (λ n. eqb n 1) (same d (omega (arith, low))) ∙ one (p d))
  where
    one : (t : Bool) → eqb (cond t 1 0) 1 ≡ t
    one true = refl
    one false = refl

-- what is told of the card with a number that may be of none
pub card_told : (o : Option ℕ) (n : ℕ) → IsSome o ↔ (n < 52) → IfSome o (λ c. c ≡ n) → o ≡ cond (ltb n 52) (Some n) None
card_told None n valid value =
    ⊎_elim (λ lt. let no = valid.1 lt in absurd (cc no)) (λ le. grind (arith, nat_tests)) (cases_lt n 52)
card_told (Some c) n valid value =
    let below = valid.0 refl in
    let some : cond (ltb n 52) (Some n) None ≡ Some n = grind (arith, nat_tests) in
    ap (λ k. Some k) value ∙ sym some

card_some : (P : ℕ → Type 0) (o : Option ℕ) (n : ℕ) → IsSome o ↔ (n < 52) → IfSome o (λ c. c ≡ n) → (n < 52 → P n) → IfSome o P
card_some P None n valid value holds = value
card_some P (Some c) n valid value holds = subst P (sym value) (holds (valid.0 refl))

card_none : (P : Type 0) (o : Option ℕ) (n : ℕ) → IsSome o ↔ (n < 52) → (52 ≤ n → P) → IfNone o P
card_none P None n valid holds =
    holds (⊎_elim (λ lt. let no = valid.1 lt in absurd (cc no)) (λ le. le) (cases_lt n 52))
card_none P (Some c) n valid holds = tt

module _ (bits : ℕ) (o : Option ℕ) (small : bits < 2 ^ 64) (valid : IsSome o ↔ (trailing_zeros w64 bits < 52))
    (value : IfSome o (λ c. c ≡ trailing_zeros w64 bits)) where
  some_set : trailing_zeros w64 bits < 52 → 0 < bits
  some_set below =
      ⊎_elim (λ lt. lt)
      (λ le. let none : bits ≡ 0 = omega (arith, le) in
      let all : trailing_zeros w64 bits ≡ 64 = ap (trailing_zeros w64) none ∙ trailing_of_zero 64 in
      absurd (omega (arith, below, all)))
      (cases_lt 0 bits)

  pub least_set : IfSome o (λ c. bit_at bits c ≡ 1)
  least_set = card_some (λ c. bit_at bits c ≡ 1) o (trailing_zeros w64 bits) valid value
      (λ below. (bit_at-trailing_zeros w64 bits (some_set below) small).1)

  pub least_least : IfSome o (λ c. (d : ℕ) → d < c → bit_at bits d ≡ 0)
  least_least = card_some (λ c. (d : ℕ) → d < c → bit_at bits d ≡ 0) o (trailing_zeros w64 bits) valid value
      (λ below. (bit_at-trailing_zeros w64 bits (some_set below) small).2)

  pub least_none : IfNone o ((d : ℕ) → d < 52 → bit_at bits d ≡ 0)
  least_none = card_none ((d : ℕ) → d < 52 → bit_at bits d ≡ 0) o (trailing_zeros w64 bits) valid
      (λ past d below. ⊎_elim
      (λ some. (bit_at-trailing_zeros w64 bits some small).2 d (omega (arith, past, below)))
      (λ none. let e : bits ≡ 0 = omega (arith, none) in ap (λ n. bit_at n d) e ∙ bit_at-zero d)
      (cases_lt 0 bits))
