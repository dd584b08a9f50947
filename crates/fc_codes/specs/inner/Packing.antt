-- Three words and the list of numbers in them tell the same.
use Rattle.std.specs.Prelude.{true, nat_eq}
use Rattle.std.specs.Cmp.{unsigned_Decides}
use Rattle.std.specs.Cmp.Lexicographic.{pointwise, pointwise_decides}
use Rattle.std.proofs.Common.{◌≡◌, ℕ, zero, suc, ◌+◌, ◌*◌, ◌/◌, ◌%◌, ◌^◌, ◌<◌, ◌≤◌, List, [], ◌∷◌, length, get_or, refl, sym, ◌∙◌, ap, subst, arith}
use Rattle.std.proofs.lemmas.List.FromFn.{get_or-map-range_with_len, length-map-range_with_len}
use Rattle.std.proofs.lemmas.Nat.{pow-add, shr-shr}
use Rattle.fc_cards.specs.Card.{all_cards}
use Rattle.fc_codes.specs.Words.{digit, word_with, read_state, numbers_of, word_of, words_of, words_of_halves, halves_of_words}
use Rattle.fc_codes.specs.inner.Words.{AreWords, AreHalves}

-- the place value of one number more
pub place_value : (i : ℕ) → 2 ^ (3 * suc i) ≡ 8 * 2 ^ (3 * i)
place_value i = let e : 3 * suc i ≡ 3 + 3 * i = omega arith in ap (λ k. 2 ^ k) e ∙ pow-add 2 3 (3 * i)

pub digit-suc : (w i : ℕ) → digit w (suc i) ≡ digit (w / 8) i
digit-suc w i =
    let e : 3 * suc i ≡ 3 + 3 * i = omega arith in
    ap (λ k. w / 2 ^ k % 8) e ∙ ap (λ n. n % 8) (sym (shr-shr w 3 (3 * i)))

packed-same : (f g : ℕ → ℕ) (n : ℕ) → ((i : ℕ) → i < n → f i ≡ g i) → word_with f n ≡ word_with g n
unfolding word_with
packed-same f g zero same = refl
packed-same f g (suc n) same =
    let rest = packed-same (λ i. f (suc i)) (λ i. g (suc i)) n (λ i below. same (suc i) (omega arith)) in
    let first = same 0 (omega arith) in
    omega (arith, rest, first)

-- a word is packed of its numbers
packed-digit : (n w : ℕ) → w < 2 ^ (3 * n) → word_with (digit w) n ≡ w
unfolding word_with
packed-digit zero w small = omega arith
packed-digit (suc n) w small =
    let value = place_value n in
    let less : w / 8 < 2 ^ (3 * n) = omega (arith, value, small) in
    let rest = packed-same (λ i. digit w (suc i)) (digit (w / 8)) n (λ i below. digit-suc w i) ∙ packed-digit n (w / 8) less in
    omega (arith, rest)

-- the number at a place
pub unpacked-at : (words : List ℕ) (c : ℕ) → c < 52 → get_or (numbers_of words) c 0 ≡ read_state words c
unfolding numbers_of all_cards
unpacked-at words c below = get_or-map-range_with_len (read_state words) 0 52 c c 0 below (omega arith)

pub length-unpacked : (words : List ℕ) → length (numbers_of words) ≡ 52
unfolding numbers_of all_cards
length-unpacked words = length-map-range_with_len (read_state words) 0 52

-- a word of the list is the word
word_back : (words : List ℕ) (k from n : ℕ) → n ≤ 21 → from ≡ 21 * k → from + n ≤ 52 → get_or words k 0 < 2 ^ (3 * n)
    → word_of (numbers_of words) from n ≡ get_or words k 0
word_back words k from n few at within small =
    packed-same (λ i. get_or (numbers_of words) (from + i) 0) (digit (get_or words k 0)) n
    (λ i below. let q : (from + i) / 21 ≡ k = omega arith in
    let r : (from + i) % 21 ≡ i = omega arith in
    unpacked-at words (from + i) (omega arith) ∙ ap (λ j. digit (get_or words j 0) ((from + i) % 21)) q
    ∙ ap (digit (get_or words k 0)) r)
    ∙ packed-digit n (get_or words k 0) small

three_of : (xs : List ℕ) → length xs ≡ 3 → get_or xs 0 0 ∷ get_or xs 1 0 ∷ get_or xs 2 0 ∷ [] ≡ xs
three_of (a ∷ b ∷ c ∷ []) l = refl
three_of [] l = absurd (omega arith)
three_of (a ∷ []) l = absurd (omega arith)
three_of (a ∷ b ∷ []) l = absurd (omega arith)
three_of (a ∷ b ∷ c ∷ d ∷ xs) l = absurd (omega arith)

-- the words are told by the numbers in them
pub words_back : (words : List ℕ) → AreWords words → words_of (numbers_of words) ≡ words
words_back words h =
    let one = word_back words 0 0 21 (omega arith) refl (omega arith) h.first in
    let two = word_back words 1 21 21 (omega arith) refl (omega arith) h.second in
    let three = word_back words 2 42 10 (omega arith) refl (omega arith) h.third in
    ap (λ x. x ∷ word_of (numbers_of words) 21 21 ∷ word_of (numbers_of words) 42 10 ∷ []) one
    ∙ ap (λ x. get_or words 0 0 ∷ x ∷ word_of (numbers_of words) 42 10 ∷ []) two
    ∙ ap (λ x. get_or words 0 0 ∷ get_or words 1 0 ∷ x ∷ []) three ∙ three_of words h.three

-- and the halves by the words
whole_back : (a b : ℕ) → a < 2 ^ 32 → ((a + b * 2 ^ 32) % 2 ^ 32 ≡ a) × ((a + b * 2 ^ 32) / 2 ^ 32 ≡ b)
whole_back a b small = (omega (arith, small), omega (arith, small))

five_back : (halves : List ℕ) → length halves ≡ 5 → get_or halves 0 0 < 2 ^ 32 → get_or halves 2 0 < 2 ^ 32 → get_or halves 4 0 < 2 ^ 30
    → halves_of_words (words_of_halves halves) ≡ halves
five_back (a ∷ b ∷ c ∷ d ∷ e ∷ []) l one two three =
    let first = whole_back a b one in
    let second = whole_back c d two in
    let last : e % 2 ^ 32 ≡ e = omega (arith, three) in
    ap (λ x. x ∷ (a + b * 2 ^ 32) / 2 ^ 32 ∷ (c + d * 2 ^ 32) % 2 ^ 32 ∷ (c + d * 2 ^ 32) / 2 ^ 32 ∷ e % 2 ^ 32 ∷ []) first.0
    ∙ ap (λ x. a ∷ x ∷ (c + d * 2 ^ 32) % 2 ^ 32 ∷ (c + d * 2 ^ 32) / 2 ^ 32 ∷ e % 2 ^ 32 ∷ []) first.1
    ∙ ap (λ x. a ∷ b ∷ x ∷ (c + d * 2 ^ 32) / 2 ^ 32 ∷ e % 2 ^ 32 ∷ []) second.0
    ∙ ap (λ x. a ∷ b ∷ c ∷ x ∷ e % 2 ^ 32 ∷ []) second.1 ∙ ap (λ x. a ∷ b ∷ c ∷ d ∷ x ∷ []) last
five_back [] l one two three = absurd (omega arith)
five_back (a ∷ []) l one two three = absurd (omega arith)
five_back (a ∷ b ∷ []) l one two three = absurd (omega arith)
five_back (a ∷ b ∷ c ∷ []) l one two three = absurd (omega arith)
five_back (a ∷ b ∷ c ∷ d ∷ []) l one two three = absurd (omega arith)
five_back (a ∷ b ∷ c ∷ d ∷ e ∷ f ∷ xs) l one two three = absurd (omega arith)

pub halves_back : (halves : List ℕ) → AreHalves halves → halves_of_words (words_of (numbers_of (words_of_halves halves))) ≡ halves
halves_back halves h = ap halves_of_words (words_back (words_of_halves halves) h.words) ∙ five_back halves h.five h.first h.third h.words.third

-- three words are those of their halves
pub joined_back : (words : List ℕ) → AreWords words → words_of_halves (halves_of_words words) ≡ words
joined_back words h =
    let a = get_or words 0 0 in
    let b = get_or words 1 0 in
    let c = get_or words 2 0 in
    let one : a % 2 ^ 32 + a / 2 ^ 32 * 2 ^ 32 ≡ a = omega arith in
    let two : b % 2 ^ 32 + b / 2 ^ 32 * 2 ^ 32 ≡ b = omega arith in
    let three : c % 2 ^ 32 ≡ c = omega (arith, h.third) in
    ap (λ x. x ∷ (b % 2 ^ 32 + b / 2 ^ 32 * 2 ^ 32) ∷ c % 2 ^ 32 ∷ []) one ∙ ap (λ x. a ∷ x ∷ c % 2 ^ 32 ∷ []) two
    ∙ ap (λ x. a ∷ b ∷ x ∷ []) three ∙ three_of words h.three

pub words_halved : (words : List ℕ) → AreWords words → AreHalves (halves_of_words words)
words_halved words h = record {
  five = refl;
  first = omega arith;
  third = omega arith;
  words = subst AreWords (sym (joined_back words h)) h;
}

pub words_told : (words others : List ℕ) → AreWords words → AreWords others → numbers_of words ≡ numbers_of others → words ≡ others
words_told words others h i e = sym (words_back words h) ∙ ap words_of e ∙ words_back others i

-- lists of numbers that compare equal are the same
pub states_exact : (x y : List ℕ) → pointwise nat_eq x y ≡ true → x ≡ y
states_exact x y e = (pointwise_decides unsigned_Decides x y).0 e
