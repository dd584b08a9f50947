-- Sets of cards as numbers: which bits the cards that are home have, what setting one bit changes, and the full set.
use Rattle.std.proofs.Common.{◌≡◌, ℕ, zero, suc, ◌+◌, ◌-◌, ◌*◌, ◌%◌, ◌^◌, ◌<◌, ◌≤◌, max, bit_and, bit_or, true, List, length, get_or, cond, eqb, leb, ltb, refl, sym, ◌∙◌, ap, ⊎_elim, zero-mul, one-mul, arith, w64}
use Rattle.std.specs.Prelude.{All, IsTrue, nat_eq, ◌==◌}
use Rattle.std.specs.Int.{bit_at}
use Rattle.std.proofs.lemmas.Bool.{cases_lt, cases_eq, agree_below, agree_below_at}
use Rattle.std.proofs.lemmas.Bool.Decides.{nat_tests}
use Rattle.std.proofs.lemmas.Nat.{and_le_r, or_lt, one_shl, pow_below, pow_pos}
use Rattle.std.proofs.lemmas.Nat.Bits.{bit_at_and, bit_at_or, bit_at_ones, bit_at_ones_above, bit_at_above, bit_at-lt, and_pow, bit_at_set_same, bit_at_set_other, same_from_bits_below}
use Rattle.fc_cards.specs.Card.{rank, suit}
use Rattle.fc_position.specs.Board.{count_at_home}
use Rattle.fc_canonical.specs.inner.Parts.{times_in, times_due}

-- where the bits of a mask are those of a suit, the cards below a rank have theirs among the lowest of them
suit_bit : (mask s h c : ℕ) → agree_below (λ y. bit_at mask y == 1) (λ y. suit y == s) 52 ≡ true → c < 52
    → bit_at (bit_and (2 ^ (4 * h) - 1) mask) c ≡ cond (eqb (suit c) s) (cond (leb (rank c) h) 1 0) 0
suit_bit mask s h c agree below =
    let same = agree_below_at (λ y. bit_at mask y == 1) (λ y. suit y == s) 52 c agree below in
    let small = bit_at-lt mask c in
    let both = bit_at_and (2 ^ (4 * h) - 1) mask c in
    ⊎_elim
    (λ lt. let low = bit_at_ones (4 * h) c lt in
    let home : rank c ≤ h = omega arith in
    grind (arith, nat_tests))
    (λ le. let low = bit_at_ones_above (4 * h) c le in
    let home : h < rank c = omega arith in
    grind (arith, nat_tests))
    (cases_lt c (4 * h))

-- of four numbers, each told by its place, one counts
by_place : (f : ℕ → ℕ) (s : ℕ) → s < 4
    → max (max (max (cond (eqb s 0) (f 0) 0) (cond (eqb s 1) (f 1) 0)) (cond (eqb s 2) (f 2) 0)) (cond (eqb s 3) (f 3) 0) ≡ f s
by_place f zero below = omega arith
by_place f (suc zero) below = omega arith
by_place f (suc (suc zero)) below = omega arith
by_place f (suc (suc (suc zero))) below = omega arith
by_place f (suc (suc (suc (suc s)))) below = absurd (omega arith)

-- the cards that are home, suit by suit
abbrev pub home_set : ℕ → ℕ → ℕ → ℕ → ℕ
home_set p q r s =
    bit_or
    (bit_or (bit_or (bit_and p 0x1_1111_1111_1111) (bit_and q 0x2_2222_2222_2222)) (bit_and r 0x4_4444_4444_4444))
    (bit_and s 0x8_8888_8888_8888)

pub home_below : (p q r s : ℕ) → home_set p q r s < 2 ^ 52
home_below p q r s =
    let clubs : bit_and p 0x1_1111_1111_1111 < 2 ^ 52 = omega (arith, and_le_r p 0x1_1111_1111_1111) in
    let diamonds : bit_and q 0x2_2222_2222_2222 < 2 ^ 52 = omega (arith, and_le_r q 0x2_2222_2222_2222) in
    let hearts : bit_and r 0x4_4444_4444_4444 < 2 ^ 52 = omega (arith, and_le_r r 0x4_4444_4444_4444) in
    let spades : bit_and s 0x8_8888_8888_8888 < 2 ^ 52 = omega (arith, and_le_r s 0x8_8888_8888_8888) in
    or_lt 52 _ _ (or_lt 52 _ _ (or_lt 52 _ _ clubs diamonds) hearts) spades

home_bit : (counts : List ℕ) (p q r s : ℕ) → p ≡ 2 ^ (4 * get_or counts 0 0) - 1 → q ≡ 2 ^ (4 * get_or counts 1 0) - 1
    → r ≡ 2 ^ (4 * get_or counts 2 0) - 1 → s ≡ 2 ^ (4 * get_or counts 3 0) - 1 → (c : ℕ) → c < 52
    → bit_at (home_set p q r s) c ≡ count_at_home c counts
home_bit counts p q r s ep eq er es c below =
    let clubs = ap (λ n. bit_at (bit_and n 0x1_1111_1111_1111) c) ep ∙ suit_bit 0x1_1111_1111_1111 0 (get_or counts 0 0) c refl below in
    let diamonds = ap (λ n. bit_at (bit_and n 0x2_2222_2222_2222) c) eq ∙ suit_bit 0x2_2222_2222_2222 1 (get_or counts 1 0) c refl below in
    let hearts = ap (λ n. bit_at (bit_and n 0x4_4444_4444_4444) c) er ∙ suit_bit 0x4_4444_4444_4444 2 (get_or counts 2 0) c refl below in
    let spades = ap (λ n. bit_at (bit_and n 0x8_8888_8888_8888) c) es ∙ suit_bit 0x8_8888_8888_8888 3 (get_or counts 3 0) c refl below in
    rw (bit_at_or, bit_at_or, bit_at_or, clubs, diamonds, hearts, spades)
    (by_place (λ i. cond (leb (rank c) (get_or counts i 0)) 1 0) (suit c) (omega arith))

pub home_times : (counts : List ℕ) (p q r s : ℕ) → length counts ≡ 4 → All (λ n. n ≤ 13) counts
    → p ≡ 2 ^ (4 * get_or counts 0 0) - 1 → q ≡ 2 ^ (4 * get_or counts 1 0) - 1 → r ≡ 2 ^ (4 * get_or counts 2 0) - 1
    → s ≡ 2 ^ (4 * get_or counts 3 0) - 1 → (c : ℕ) → times_in (home_set p q r s) c ≡ count_at_home c counts
unfolding times_in
home_times counts p q r s four most ep eq er es c =
    ⊎_elim (home_bit counts p q r s ep eq er es c)
    (λ above. let few = most (suit c) 0 (omega (arith, four)) in
    let none : ◌≡◌ {A = ℕ} (cond (leb (rank c) (get_or counts (suit c) 0)) 1 0) 0 = grind (arith, nat_tests) in
    bit_at_above (home_set p q r s) 52 c (home_below p q r s) above ∙ sym none)
    (cases_lt c 52)

-- a number that is no card, or was in the set, is there too often with one more
pub no_card : (n k : ℕ) → 52 ≤ k → times_due k < times_in n k + 1
unfolding times_due times_in
no_card n k above =
    let none : ◌≡◌ {A = ℕ} (cond (ltb k 52) 1 0) 0 = grind (arith, nat_tests) in
    omega (arith, none)

pub was_there : (n k : ℕ) → k < 52 → (bit_and n (1 * 2 ^ k % 2 ^ 64) ≡ 0 → ⊥) → times_due k < times_in n k + 1
unfolding times_due times_in
was_there n k below other =
    let one : ◌≡◌ {A = ℕ} (cond (ltb k 52) 1 0) 1 = grind (arith, nat_tests) in
    let bit = ap (bit_and n) (one_shl k 64 (omega arith)) ∙ and_pow n k in
    ⊎_elim (λ none. absurd (other (bit ∙ ap (λ b. b * 2 ^ k) none ∙ zero-mul (2 ^ k))))
    (λ some. let most = bit_at-lt n k in omega (arith, one, some, most))
    (cases_eq (bit_at n k) 0)

-- a card that wasn't in the set is in it once afterwards, and the others are as before
pub set_more : (n k : ℕ) → k < 52 → bit_and n (1 * 2 ^ k % 2 ^ 64) ≡ 0 → (c : ℕ)
    → times_in (bit_or n (1 * 2 ^ k % 2 ^ 64)) c ≡ times_in n c + cond (eqb k c) 1 0
unfolding times_in
set_more n k below none c =
    let bit : bit_at n k * 2 ^ k ≡ 0 = sym (and_pow n k) ∙ ap (bit_and n) (sym (one_shl k 64 (omega arith))) ∙ none in
    let before : bit_at n k ≡ 0 =
    ⊎_elim (λ e. e)
    (λ other. let one : bit_at n k ≡ 1 = omega (arith, bit_at-lt n k, other) in
    absurd (omega (arith, pow_pos k, sym (one-mul (2 ^ k)) ∙ ap (λ b. b * 2 ^ k) (sym one) ∙ bit)))
    (cases_eq (bit_at n k) 0) in
    ⊎_elim
    (λ same. let here = bit_at_set_same w64 n k (omega arith) in
    let yes : ◌≡◌ {A = ℕ} (cond (eqb k c) 1 0) 1 = grind (arith, nat_tests) in
    let was = ap (bit_at n) same in
    let is = ap (bit_at (bit_or n (1 * 2 ^ k % 2 ^ 64))) same in
    omega (arith, here, yes, before, was, is))
    (λ other. let here = bit_at_set_other w64 n k (omega arith) c other in
    let no : ◌≡◌ {A = ℕ} (cond (eqb k c) 1 0) 0 = grind (arith, nat_tests) in
    omega (arith, here, no))
    (cases_eq c k)

pub set_below : (n k : ℕ) → k < 52 → n < 2 ^ 52 → bit_or n (1 * 2 ^ k % 2 ^ 64) < 2 ^ 52
set_below n k below small =
    or_lt 52 n (1 * 2 ^ k % 2 ^ 64) small (omega (arith, one_shl k 64 (omega arith), pow_below k 52 below))

-- the full set has each number as often as it is due, and no other set does
pub full_set : (n : ℕ) → n < 2 ^ 52
    → (IsTrue (nat_eq n 0xF_FFFF_FFFF_FFFF) → (c : ℕ) → times_in n c ≡ times_due c)
    × (((c : ℕ) → times_in n c ≡ times_due c) → IsTrue (nat_eq n 0xF_FFFF_FFFF_FFFF))
unfolding times_in times_due
full_set n small =
    let each : (c : ℕ) → bit_at (2 ^ 52 - 1) c ≡ cond (ltb c 52) 1 0 = λ c.
    ⊎_elim
    (λ lt. let one : ◌≡◌ {A = ℕ} (cond (ltb c 52) 1 0) 1 = grind (arith, nat_tests) in bit_at_ones 52 c lt ∙ sym one)
    (λ le. let none : ◌≡◌ {A = ℕ} (cond (ltb c 52) 1 0) 0 = grind (arith, nat_tests) in bit_at_ones_above 52 c le ∙ sym none)
    (cases_lt c 52) in (
      λ yes c. let same : n ≡ 2 ^ 52 - 1 = grind (arith, nat_tests) in ap (λ m. bit_at m c) same ∙ each c,
      λ all. let same : n ≡ 2 ^ 52 - 1 = same_from_bits_below 52 n (2 ^ 52 - 1) small (omega arith) (λ i below. all i ∙ sym (each i)) in
          grind (arith, nat_tests),
    )
