-- Going over a word from one number that isn't 0 to the next.
use Rattle.std.proofs.Common.{◌≡◌, ℕ, suc, ◌+◌, ◌*◌, ◌/◌, ◌%◌, ◌^◌, ◌<◌, ◌≤◌, sym, ◌∙◌, ap, subst, ⊎_elim, arith}
use Rattle.std.specs.Int.{bit_at}
use Rattle.std.proofs.lemmas.Bool.{cases_eq, cases_lt}
use Rattle.std.proofs.lemmas.Nat.{shr-shr, shr_below}
use Rattle.std.proofs.lemmas.Nat.Bits.{bit_at_above}
use Rattle.fc_codes.specs.Words.{digit}
use Rattle.fc_codes.specs.inner.Packing.{digit-suc}

-- a number is its three bits
digit_bits : (w i : ℕ) → digit w i ≡ bit_at w (3 * i) + 2 * bit_at w (3 * i + 1) + 4 * bit_at w (3 * i + 2)
digit_bits w i =
    let two = ap (λ x. x % 2) (shr-shr w (3 * i) 1) in
    let four = ap (λ x. x % 2) (shr-shr w (3 * i) 2) in
    omega (arith, eight (w / 2 ^ (3 * i)), two, four)
  where
    eight : (n : ℕ) → n % 8 ≡ n % 2 + 2 * (n / 2 ^ 1 % 2) + 4 * (n / 2 ^ 2 % 2)
    eight n = omega arith

pub unmoved_zero : (w t i : ℕ) → ((j : ℕ) → j < t → bit_at w j ≡ 0) → i < t / 3 → digit w i ≡ 0
unmoved_zero w t i low below =
    let one = low (3 * i) (omega arith) in
    let two = low (3 * i + 1) (omega arith) in
    let three = low (3 * i + 2) (omega arith) in
    omega (arith, digit_bits w i, one, two, three)

pub moved_some : (w t : ℕ) → bit_at w t ≡ 1 → digit w (t / 3) ≡ 0 → ⊥
moved_some w t set none =
    let all = digit_bits w (t / 3) in
    ⊎_elim
    (λ first. let at : t ≡ 3 * (t / 3) = omega (arith, first) in
    let bit : bit_at w (3 * (t / 3)) ≡ 1 = ap (bit_at w) (sym at) ∙ set in omega (arith, all, none, bit))
    (λ later. ⊎_elim
    (λ second. let at : t ≡ 3 * (t / 3) + 1 = omega (arith, second) in
    let bit : bit_at w (3 * (t / 3) + 1) ≡ 1 = ap (bit_at w) (sym at) ∙ set in omega (arith, all, none, bit))
    (λ last. let at : t ≡ 3 * (t / 3) + 2 = omega (arith, later, last) in
    let bit : bit_at w (3 * (t / 3) + 2) ≡ 1 = ap (bit_at w) (sym at) ∙ set in omega (arith, all, none, bit))
    (cases_eq (t % 3) 1))
    (cases_eq (t % 3) 0)

digit_shifted : (w p i : ℕ) → digit (w / 2 ^ (3 * p)) i ≡ digit w (p + i)
digit_shifted w p i =
    let e : 3 * p + 3 * i ≡ 3 * (p + i) = omega arith in
    ap (λ x. x % 8) (shr-shr w (3 * p) (3 * i)) ∙ ap (λ k. w / 2 ^ k % 8) e

pub digit_after : (w p i : ℕ) → digit (w / 2 ^ (3 * p) / 8) i ≡ digit w (p + 1 + i)
digit_after w p i =
    let e : p + suc i ≡ p + 1 + i = omega arith in
    sym (digit-suc (w / 2 ^ (3 * p)) i) ∙ digit_shifted w p (suc i) ∙ ap (digit w) e

-- past the word's end all numbers are 0
pub digit_past : (w n p : ℕ) → w < 2 ^ (3 * n) → n ≤ p → digit w p ≡ 0
digit_past w n p small past =
    let one = bit_at_above w (3 * n) (3 * p) small (omega (arith, past)) in
    let two = bit_at_above w (3 * n) (3 * p + 1) small (omega (arith, past)) in
    let three = bit_at_above w (3 * n) (3 * p + 2) small (omega (arith, past)) in
    omega (arith, digit_bits w p, one, two, three)

pub digit_inside : (w n p : ℕ) → w < 2 ^ (3 * n) → (digit w p ≡ 0 → ⊥) → p < n
digit_inside w n p small some = ⊎_elim (λ lt. lt) (λ le. absurd (some (digit_past w n p small le))) (cases_lt p n)

pub rest_small : (w n p m : ℕ) → w < 2 ^ (3 * n) → n ≡ p + 1 + m → w / 2 ^ (3 * p) / 8 < 2 ^ (3 * m)
rest_small w n p m small e =
    let size : 3 * n ≡ 3 * m + (3 * p + 3) = omega (arith, e) in
    let below = shr_below w (3 * m) (3 * p + 3) (subst (λ k. w < 2 ^ k) size small) in
    subst (λ x. x < 2 ^ (3 * m)) (sym (shr-shr w (3 * p) 3)) below
