-- No text is of two entries.
use Rattle.std.proofs.Common.{◌≡◌, ℕ, ◌+◌, ◌≤◌, ◌<◌, Option, Some, None, true, false, List, ◌∷◌, cond, refl, sym, ◌∙◌, ap, ⊎_elim, arith}
use Rattle.std.specs.Prelude.{nat_le}
use Rattle.std.proofs.lemmas.Bool.{cases_lt}
use Rattle.std.proofs.lemmas.Bool.Decides.{nat_tests}
use Rattle.fc_cards.specs.declared.places.Place.{Place}
use Rattle.fc_cards.specs.declared.places.Place.TheVariants.{Column, Cell, Home}
use Rattle.fc_moves.specs.MoveText.{IsThere, place_letter}
use Rattle.fc_moves.proofs.StepLemmas.{source_is_there}
use Rattle.fc_sequences.specs.Laws.{TextsTellEntriesApart}
use Rattle.fc_sequences.specs.Pair.{count_text, hexadecimal, pair_text}
use Rattle.fc_sequences.proofs.EntryLemmas.{entry_same}

-- the digit of a number below ten, and of another
low_digit : (n : ℕ) → n < 10 → hexadecimal n ≡ 48 + n
low_digit n below = let test : nat_le 10 n ≡ false = grind (arith, nat_tests) in ap (λ t. cond t (87 + n) (48 + n)) test

high_digit : (n : ℕ) → 10 ≤ n → hexadecimal n ≡ 87 + n
high_digit n above = let test : nat_le 10 n ≡ true = grind (arith, nat_tests) in ap (λ t. cond t (87 + n) (48 + n)) test

-- no digit is of two numbers
digit_once : (m n : ℕ) → hexadecimal m ≡ hexadecimal n → m ≡ n
digit_once m n e =
    ⊎_elim (λ low. ⊎_elim (λ below. omega (arith, e, low_digit m low, low_digit n below)) (λ above. omega (arith, e, low_digit m low, high_digit n above)) (cases_lt n 10))
    (λ high. ⊎_elim (λ below. omega (arith, e, high_digit m high, low_digit n below)) (λ above. omega (arith, e, high_digit m high, high_digit n above)) (cases_lt n 10))
    (cases_lt m 10)

count_once : (m n : Option ℕ) → count_text m ≡ count_text n → m ≡ n
count_once None None e = refl
count_once None (Some n) e = absurd (cc e)
count_once (Some m) None e = absurd (cc e)
count_once (Some m) (Some n) e = ap (λ (x : ℕ). Some x) (digit_once m n (cc e))

-- no letter is of two places
letter_once : (p q : Place) → IsThere p → IsThere q → place_letter p ≡ place_letter q → p ≡ q
letter_once (Column i) (Column j) a b e = let same : i ≡ j = omega (arith, e) in ap (λ (n : ℕ). Column n) same
letter_once (Column i) (Cell j) a b e = absurd (omega (arith, a, e))
letter_once (Column i) Home a b e = absurd (omega (arith, a, e))
letter_once (Cell i) (Column j) a b e = absurd (omega (arith, b, e))
letter_once (Cell i) (Cell j) a b e = let same : i ≡ j = omega (arith, e) in ap (λ (n : ℕ). Cell n) same
letter_once (Cell i) Home a b e = absurd (omega (arith, a, e))
letter_once Home (Column j) a b e = absurd (omega (arith, b, e))
letter_once Home (Cell j) a b e = absurd (omega (arith, b, e))
letter_once Home Home a b e = refl

-- what stands at a place of equal lists is equal
heads : (x y : ℕ) (xs ys : List ℕ) → x ∷ xs ≡ y ∷ ys → (x ≡ y) × (xs ≡ ys)
heads x y xs ys e = (cc e, cc e)

pub text_of_one : TextsTellEntriesApart
text_of_one token p q (one, here) (other, there) =
    let same : pair_text p ≡ pair_text q = sym here ∙ there in
    let from = heads (place_letter p.from) (place_letter q.from) (place_letter p.to ∷ count_text p.count) (place_letter q.to ∷ count_text q.count) same in
    let to = heads (place_letter p.to) (place_letter q.to) (count_text p.count) (count_text q.count) from.1 in
    entry_same p q (letter_once p.from q.from (source_is_there p.from one.from) (source_is_there q.from other.from) from.0)
    (letter_once p.to q.to one.to other.to to.0) (count_once p.count q.count to.1)
