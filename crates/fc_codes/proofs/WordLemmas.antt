-- Numbers of three bits in words: what one reads and what writing one changes.
use Rattle.std.proofs.Common.{◌≡◌, ◌≢◌, ℕ, zero, suc, ◌+◌, ◌-◌, ◌*◌, ◌/◌, ◌%◌, ◌^◌, ◌<◌, ◌≤◌, bit_and, Bool, true, false, List, [], ◌∷◌, length, set, get_or, refl, sym, ◌∙◌, ap, subst, ⊎_elim, mul_comm, mul_assoc, arith}
use Rattle.std.specs.Prelude.{nat_eq}
use Rattle.std.specs.Cmp.{unsigned_Decides}
use Rattle.std.specs.Cmp.Lexicographic.{pointwise, pointwise_decides}
use Rattle.std.proofs.lemmas.List.{get_or-set_same, get_or-set_other, length-set, ext_get_or, get_or_past}
use Rattle.std.proofs.lemmas.Nat.{and_mask, mul-le, shr_le, shr_split, shl_whole}
use Rattle.std.proofs.lemmas.Bool.{cases_eq, cases_lt}
use Rattle.fc_codes.specs.Words.{digit, read_state, numbers_of, word_of, words_of, halves_of_words}
use Rattle.fc_codes.specs.inner.Words.{with_number, AreWords}
use Rattle.fc_codes.proofs.DigitLemmas.{digit_past}
use Rattle.fc_codes.specs.inner.Packing.{place_value, digit-suc, unpacked-at, length-unpacked, words_back, words_told}

pub digit_masked : (w i : ℕ) → bit_and (w / 2 ^ (3 * i)) 7 ≡ digit w i
digit_masked w i = and_mask (w / 2 ^ (3 * i)) 3

-- a number at its place is no more than the word
pub digit_fits : (w i : ℕ) → digit w i * 2 ^ (3 * i) ≤ w
digit_fits w i =
    let p = 2 ^ (3 * i) in
    let few : digit w i ≤ w / p = omega arith in
    let most = mul-le (digit w i) p (w / p) p few (omega arith) in
    omega (arith, most, shr_split w (3 * i))

-- nothing is shifted out
pub shifted : (d i : ℕ) → d < 8 → i < 21 → d * 2 ^ (3 * i) % 2 ^ 64 ≡ d * 2 ^ (3 * i)
shifted d i small below = shl_whole d 3 (3 * i) 64 small (omega arith)

-- what the code computes
pub taken_out : (w i m : ℕ) → m ≡ digit w i → i < 21 → m * 2 ^ (3 * i) % 2 ^ 64 ≡ digit w i * 2 ^ (3 * i)
taken_out w i m e below = shifted m i (omega (arith, e)) below ∙ ap (λ n. n * 2 ^ (3 * i)) e

pub put_in : (w i v m : ℕ) → m ≡ digit w i → v < 8 → i < 21
    → w - m * 2 ^ (3 * i) % 2 ^ 64 + v * 2 ^ (3 * i) % 2 ^ 64 ≡ with_number w i v
put_in w i v m e few below =
    let old = taken_out w i m e below in
    let new = shifted v i few below in
    ap (λ n. w - n + v * 2 ^ (3 * i) % 2 ^ 64) old ∙ ap (λ n. w - digit w i * 2 ^ (3 * i) + n) new

-- a number is put at its place
with_number-first : (w v : ℕ) → with_number w 0 v ≡ w / 8 * 8 + v
with_number-first w v = omega arith

eight_times : (d p : ℕ) → d * (8 * p) ≡ 8 * (d * p)
eight_times d p = sym (mul_assoc d 8 p) ∙ ap (λ n. n * p) (mul_comm d 8) ∙ mul_assoc 8 d p

with_number-suc : (w i v : ℕ) → with_number w (suc i) v ≡ w % 8 + 8 * with_number (w / 8) i v
with_number-suc w i v =
    let p = 2 ^ (3 * i) in
    let value = place_value i in
    let d = digit (w / 8) i in
    let old : digit w (suc i) * 2 ^ (3 * suc i) ≡ 8 * (d * p) =
    ap (λ n. n * 2 ^ (3 * suc i)) (digit-suc w i) ∙ ap (λ n. d * n) value ∙ eight_times d p in
    let new : v * 2 ^ (3 * suc i) ≡ 8 * (v * p) = ap (λ n. v * n) value ∙ eight_times v p in
    let fits = digit_fits (w / 8) i in
    omega (arith, old, new, fits)

-- a word with numbers at n places stays one
pub with_number-small : (n w i v : ℕ) → w < 2 ^ (3 * n) → i < n → v < 8 → with_number w i v < 2 ^ (3 * n)
with_number-small zero w i v small below few = absurd (omega arith)
with_number-small (suc n) w zero v small below few =
    let value = place_value n in
    let first = with_number-first w v in
    omega (arith, value, first, small)
with_number-small (suc n) w (suc i) v small below few =
    let value = place_value n in
    let next = with_number-suc w i v in
    let rest = with_number-small n (w / 8) i v (omega (arith, value, small)) (omega arith) few in
    omega (arith, value, next, rest)

pub digit-with_same : (w i v : ℕ) → v < 8 → digit (with_number w i v) i ≡ v
digit-with_same w zero v few = let first = with_number-first w v in omega (arith, first)
digit-with_same w (suc i) v few =
    let next = with_number-suc w i v in
    let rest : with_number w (suc i) v / 8 ≡ with_number (w / 8) i v = omega (arith, next) in
    digit-suc (with_number w (suc i) v) i ∙ ap (λ n. digit n i) rest ∙ digit-with_same (w / 8) i v few

pub digit-with_other : (w i j v : ℕ) → v < 8 → j ≢ i → digit (with_number w i v) j ≡ digit w j
digit-with_other w zero zero v few other = absurd (other refl)
digit-with_other w zero (suc j) v few other =
    let first = with_number-first w v in
    let rest : with_number w 0 v / 8 ≡ w / 8 = omega (arith, first) in
    digit-suc (with_number w 0 v) j ∙ ap (λ n. digit n j) rest ∙ sym (digit-suc w j)
digit-with_other w (suc i) zero v few other = let next = with_number-suc w i v in omega (arith, next)
digit-with_other w (suc i) (suc j) v few other =
    let next = with_number-suc w i v in
    let rest : with_number w (suc i) v / 8 ≡ with_number (w / 8) i v = omega (arith, next) in
    digit-suc (with_number w (suc i) v) j ∙ ap (λ n. digit n j) rest
    ∙ digit-with_other (w / 8) i j v few (λ e. other (ap suc e)) ∙ sym (digit-suc w j)

-- the words with another number for a card
abbrev pub set_state : List ℕ → ℕ → ℕ → List ℕ
set_state words c v = set words (c / 21) (with_number (get_or words (c / 21) 0) (c % 21) v)

pub read-set_state : (words : List ℕ) (c v d : ℕ) → length words ≡ 3 → c < 52 → v < 8 → d < 52
    → read_state (set_state words c v) d ≡ get_or (set (numbers_of words) c v) d 0
read-set_state words c v d three below few small =
    let k = c / 21 in
    let new = with_number (get_or words k 0) (c % 21) v in
    let inside : k < length words = omega (arith, three) in
    ⊎_elim
    (λ same. let word : get_or (set_state words c v) (d / 21) 0 ≡ new =
    ap (λ n. get_or (set_state words c v) (n / 21) 0) same ∙ get_or-set_same words k new 0 inside in
    ap (λ n. digit n (d % 21)) word ∙ ap (λ n. digit new (n % 21)) same
    ∙ digit-with_same (get_or words k 0) (c % 21) v few
    ∙ sym (ap (λ n. get_or (set (numbers_of words) c v) n 0) same
    ∙ get_or-set_same (numbers_of words) c v 0 (omega (arith, length-unpacked words, below))))
    (λ other. let there = get_or-set_other (numbers_of words) c d v 0 other ∙ unpacked-at words d small in
    ⊎_elim
    (λ same. let word : get_or (set_state words c v) (d / 21) 0 ≡ new =
    ap (λ n. get_or (set_state words c v) n 0) same ∙ get_or-set_same words k new 0 inside in
    let apart : d % 21 ≢ c % 21 = λ e. other (omega (arith, same, e)) in
    ap (λ n. digit n (d % 21)) word ∙ digit-with_other (get_or words k 0) (c % 21) (d % 21) v few apart
    ∙ ap (λ n. digit (get_or words n 0) (d % 21)) (sym same) ∙ sym there)
    (λ apart. ap (λ n. digit n (d % 21)) (get_or-set_other words k (d / 21) new 0 apart) ∙ sym there)
    (cases_eq (d / 21) k))
    (cases_eq d c)

pub unpacked-set_state : (words : List ℕ) (c v : ℕ) → length words ≡ 3 → c < 52 → v < 8
    → numbers_of (set_state words c v) ≡ set (numbers_of words) c v
unpacked-set_state words c v three below few =
    let long = length-unpacked (set_state words c v) in
    ext_get_or 0 (numbers_of (set_state words c v)) (set (numbers_of words) c v)
    (long ∙ sym (length-set (numbers_of words) c v ∙ length-unpacked words))
    (λ d inside. let small : d < 52 = omega (arith, long, inside) in
    unpacked-at (set_state words c v) d small ∙ read-set_state words c v d three below few small)

-- they are three words too
word_small : (words : List ℕ) (k j n w : ℕ) → j < length words → get_or words j 0 < 2 ^ (3 * n) → (k ≡ j → w < 2 ^ (3 * n))
    → get_or (set words k w) j 0 < 2 ^ (3 * n)
word_small words k j n w inside old new =
    ⊎_elim
    (λ same. let at : get_or (set words k w) j 0 ≡ w =
    ap (λ i. get_or (set words i w) j 0) same ∙ get_or-set_same words j w 0 inside in
    let small = new same in omega (arith, at, small))
    (λ other. let at = get_or-set_other words k j w 0 (λ e. other (sym e)) in omega (arith, at, old))
    (cases_eq k j)

pub set_state_words : (words : List ℕ) (c v : ℕ) → AreWords words → c < 52 → v < 8 → AreWords (set_state words c v)
set_state_words words c v h below few =
    let k = c / 21 in
    let new = with_number (get_or words k 0) (c % 21) v in
    let three = h.three in
    let low : (j : ℕ) → j < 2 → get_or words j 0 < 2 ^ (3 * 21) → k ≡ j → new < 2 ^ (3 * 21) = λ j lt old e.
    with_number-small 21 (get_or words k 0) (c % 21) v (subst (λ i. get_or words i 0 < 2 ^ (3 * 21)) (sym e) old) (omega arith) few in
    record {
      three = length-set words k new ∙ three;
      first = word_small words k 0 21 new (omega (arith, three)) h.first (low 0 (omega arith) h.first);
      second = word_small words k 1 21 new (omega (arith, three)) h.second (low 1 (omega arith) h.second);
      third = word_small words k 2 10 new (omega (arith, three)) h.third
          (λ e. with_number-small 10 (get_or words k 0) (c % 21) v (subst (λ i. get_or words i 0 < 2 ^ (3 * 10)) (sym e) h.third)
          (omega (arith, e, below)) few);
    }

-- no bits set are no numbers
abbrev pub zeros : List ℕ
zeros = 0 ∷ 0 ∷ 0 ∷ []

zero_word : (k : ℕ) → get_or zeros k 0 ≡ 0
zero_word zero = refl
zero_word (suc zero) = refl
zero_word (suc (suc zero)) = refl
zero_word (suc (suc (suc k))) = refl

pub zero_state : (c : ℕ) → c < 52 → get_or (numbers_of zeros) c 0 ≡ 0
zero_state c below =
    let none = shr_le 0 (3 * (c % 21)) in
    let word = ap (λ w. digit w (c % 21)) (zero_word (c / 21)) in
    let at = unpacked-at zeros c below in
    omega (arith, none, word, at)

-- the three words of a list
pub words_are : (words states : List ℕ) → AreWords words → numbers_of words ≡ states
    → (word_of states 0 21 ≡ get_or words 0 0) × (word_of states 21 21 ≡ get_or words 1 0) × (word_of states 42 10 ≡ get_or words 2 0)
words_are words states h e =
    let back = ap words_of (sym e) ∙ words_back words h in
    (ap (λ l. get_or l 0 0) back, ap (λ l. get_or l 1 0) back, ap (λ l. get_or l 2 0) back)

-- words compare as the lists of their numbers
same_tests : (a b : Bool) → (a ≡ true → b ≡ true) → (b ≡ true → a ≡ true) → a ≡ b
same_tests true true f g = refl
same_tests true false f g = sym (f refl)
same_tests false true f g = g refl
same_tests false false f g = refl

pub compared : (words others : List ℕ) → AreWords words → AreWords others
    → pointwise nat_eq words others ≡ pointwise nat_eq (numbers_of words) (numbers_of others)
compared words others h i =
    let w = pointwise_decides unsigned_Decides words others in
    let u = pointwise_decides unsigned_Decides (numbers_of words) (numbers_of others) in
    same_tests (pointwise nat_eq words others) (pointwise nat_eq (numbers_of words) (numbers_of others))
    (λ e. u.1 (ap numbers_of (w.0 e))) (λ e. w.1 (words_told words others h i (u.0 e)))

-- a word of three tells the states of its cards, and no more
pub word_fits : (words : List ℕ) (k : ℕ) → AreWords words → k < 3 → get_or words k 0 < 2 ^ 63
word_fits words zero h below = h.first
word_fits words (suc zero) h below = h.second
word_fits words (suc (suc zero)) h below = let few = h.third in omega (arith, few)
word_fits words (suc (suc (suc k))) h below = absurd (omega arith)

pub word_state : (words : List ℕ) (k i : ℕ) → AreWords words → k < 3 → i < 21
    → digit (get_or words k 0) i ≡ get_or (numbers_of words) (21 * k + i) 0
word_state words k i h below few =
    let word : (21 * k + i) / 21 ≡ k = omega (arith, few) in
    let rest : (21 * k + i) % 21 ≡ i = omega (arith, few) in
    ⊎_elim
    (λ inside. ap (λ n. digit (get_or words n 0) i) (sym word) ∙ ap (λ n. digit (get_or words ((21 * k + i) / 21) 0) n) (sym rest)
    ∙ sym (unpacked-at words (21 * k + i) inside))
    (λ past. let last : k ≡ 2 = omega (arith, past, below, few) in
    let small : get_or words k 0 < 2 ^ (3 * 10) = subst (λ n. get_or words n 0 < 2 ^ 30) (sym last) h.third in
    digit_past (get_or words k 0) 10 i small (omega (arith, past, last))
    ∙ sym (get_or_past (numbers_of words) (21 * k + i) 0 (omega (arith, length-unpacked words, past))))
    (cases_lt (21 * k + i) 52)

-- five numbers are the halves of three words
pub five_are : (words : List ℕ) (a b c d e : ℕ) → a ≡ get_or words 0 0 % 2 ^ 32 → b ≡ get_or words 0 0 / 2 ^ 32
    → c ≡ get_or words 1 0 % 2 ^ 32 → d ≡ get_or words 1 0 / 2 ^ 32 → e ≡ get_or words 2 0 % 2 ^ 32
    → a ∷ b ∷ c ∷ d ∷ e ∷ [] ≡ halves_of_words words
five_are words a b c d e one two three four five =
    let first = get_or words 0 0 in
    let second = get_or words 1 0 in
    ap (λ x. x ∷ b ∷ c ∷ d ∷ e ∷ []) one ∙ ap (λ x. first % 2 ^ 32 ∷ x ∷ c ∷ d ∷ e ∷ []) two
    ∙ ap (λ x. first % 2 ^ 32 ∷ first / 2 ^ 32 ∷ x ∷ d ∷ e ∷ []) three
    ∙ ap (λ x. first % 2 ^ 32 ∷ first / 2 ^ 32 ∷ second % 2 ^ 32 ∷ x ∷ e ∷ []) four
    ∙ ap (λ x. first % 2 ^ 32 ∷ first / 2 ^ 32 ∷ second % 2 ^ 32 ∷ second / 2 ^ 32 ∷ x ∷ []) five
