-- Numbers of columns that are marked otherwise than by a colon: no line that the reader accepts begins so.
use Rattle.std.proofs.Common.{◌≡◌, ℕ, ◌<◌, ◌==◌, ◌&&◌, true, false, cond, None, ◌⊎◌, List, [], ◌∷◌, ◌++◌, inl, inr, refl, sym, ◌∙◌, ap, ⊎_elim, arith}
use Rattle.std.specs.Prelude.{filter}
use Rattle.std.specs.Char.{to_ascii_uppercase}
use Rattle.std.proofs.lemmas.Bool.{and_parts, cases_Bool, cond-false}
use Rattle.std.proofs.lemmas.Bool.Decides.{nat_tests}
use Rattle.fc_cards.specs.Card.{suit}
use Rattle.fc_cards.specs.Texts.{suit_letter}
use Rattle.fc_cards.proofs.EachRank.{by_suit}
use Rattle.fc_text.specs.Fault.{IsNoCard}
use Rattle.fc_text.specs.Line.{after_blanks, after_colon, begin_part, is_blank, is_token, line_of, parts_of, sorted_line, tokens_of, without_return}
use Rattle.fc_typed.specs.Comment.{blanks_of, is_column_digit, is_number_mark, mark_colon}
use Rattle.fc_typed.proofs.LineLemmas.{after_blanks-front, after_blanks-label, blanks_blank, return-front_of}
use Rattle.fc_typed.proofs.NameLemmas.{clean_itself, digit_no_cells, digit_no_homes, line_unnamed}
use Rattle.fc_typed.proofs.TidyLemmas.{told_line}
use Rattle.fc_typed.proofs.SortedLemmas.{blanks_parts}
use Rattle.fc_typed.proofs.SpelledLemmas.{IsClean, first_contained, two_begun}

-- a digit and a mark of a number
pub record IsMarked (piece : List ℕ) : Type 0 where
  pub digit : ℕ
  pub mark : ℕ
  pub rest : List ℕ
  pub parts : piece ≡ digit ∷ mark ∷ rest
  pub is_digit : is_column_digit digit ≡ true
  pub is_mark : is_number_mark mark ≡ true

marked_or_not : (piece : List ℕ) → IsMarked piece ⊎ (mark_colon piece ≡ piece)
marked_or_not [] = inr refl
marked_or_not (b ∷ []) = inr refl
marked_or_not (b ∷ c ∷ bytes) = ⊎_elim
    (λ is.
    let both = and_parts (is_column_digit b) (is_number_mark c) is in
    inl (record { digit = b; mark = c; rest = bytes; parts = refl; is_digit = both.0; is_mark = both.1 }))
    (λ no'. inr (cond-false _ (b ∷ 58 ∷ bytes) (b ∷ c ∷ bytes) no'))
    (cases_Bool (is_column_digit b && is_number_mark c))

mark_no_blank : (b : ℕ) → is_number_mark b ≡ true → is_blank b ≡ false
mark_no_blank b is = grind (arith, nat_tests)

mark_no_return : (b : ℕ) → is_number_mark b ≡ true → (b == 13) ≡ false
mark_no_return b is = grind (arith, nat_tests)

mark_no_colon : (b : ℕ) → is_number_mark b ≡ true → b ≡ 58 → ⊥
mark_no_colon b is e = grind (arith, nat_tests)

mark_no_nought : (b : ℕ) → is_number_mark b ≡ true → b ≡ 48 → ⊥
mark_no_nought b is e = grind (arith, nat_tests)

mark_upper : (b : ℕ) → is_number_mark b ≡ true → is_number_mark (to_ascii_uppercase b) ≡ true
mark_upper b is = grind (arith, nat_tests)

suit_no_mark : (s : ℕ) → s < 4 → is_number_mark (suit_letter s) ≡ false
suit_no_mark = by_suit (λ s. is_number_mark (suit_letter s) ≡ false) refl refl refl refl

digit_no_blank : (b : ℕ) → is_column_digit b ≡ true → is_blank b ≡ false
digit_no_blank b is = grind (arith, nat_tests)

digit_no_return : (b : ℕ) → is_column_digit b ≡ true → (b == 13) ≡ false
digit_no_return b is = grind (arith, nat_tests)

digit_no_colon : (b : ℕ) → is_column_digit b ≡ true → (b == 58) ≡ false
digit_no_colon b is = grind (arith, nat_tests)

-- no card has such a mark as its second byte
mark_no_card : (b m : ℕ) (bytes : List ℕ) → is_number_mark m ≡ true → IsNoCard (b ∷ m ∷ bytes)
mark_no_card b m bytes is c card =
    let below = card.below in
    let text = card.text in
    ⊎_elim
    (λ one.
    let same : b ∷ m ∷ bytes ≡ one.0 ∷ text.suit_part ∷ [] = text.parts ∙ ap (λ r. r ++ text.suit_part ∷ []) one.1 in
    let second : m ≡ text.suit_part = cc same in
    absurd (cc (sym (mark_upper m is) ∙ ap (λ x. is_number_mark (to_ascii_uppercase x)) second ∙ ap is_number_mark text.spells_suit
    ∙ suit_no_mark (suit c) (omega arith))))
    (λ ten.
    let same : b ∷ m ∷ bytes ≡ 49 ∷ 48 ∷ text.suit_part ∷ [] = text.parts ∙ ap (λ r. r ++ text.suit_part ∷ []) ten.1 in
    let second : m ≡ 48 = cc same in
    absurd (mark_no_nought m is second))
    text.spells_rank

-- a column line that begins with a digit and such a mark isn't clean
mark_bad : (b m : ℕ) (rest : List ℕ) → is_column_digit b ≡ true → is_number_mark m ≡ true
    → IsClean (sorted_line None None (b ∷ m ∷ rest)) → ⊥
mark_bad b m rest digit mark clean =
    let parts = parts_of is_blank rest in
    let begun = two_begun b m parts in
    let token = b ∷ m ∷ begun.0 in
    let tokens : tokens_of (after_colon (b ∷ m ∷ rest)) ≡ token ∷ begun.1 =
    ap tokens_of (cond-false (b == 58) (m ∷ rest) (b ∷ m ∷ rest) (digit_no_colon b digit))
    ∙ ap (λ t. filter is_token (cond t ([] ∷ parts_of is_blank (m ∷ rest)) (begin_part b (parts_of is_blank (m ∷ rest))))) (digit_no_blank b digit)
    ∙ ap (λ t. filter is_token (begin_part b (cond t ([] ∷ parts) (begin_part m parts)))) (mark_no_blank m mark) ∙ begun.2 in
    clean.card (token, first_contained (tokens_of (after_colon (b ∷ m ∷ rest))) begun.1 token tokens, mark_no_card b m begun.0 mark)

-- a clean line begins with no number that is marked so
pub no_mark : (before : ℕ) (part : List ℕ) → IsClean (line_of (without_return (told_line before part)))
    → mark_colon (after_blanks part) ≡ after_blanks part
no_mark before part clean = ⊎_elim
    (λ found.
    let b = found.digit in
    let m = found.mark in
    let front = blanks_of part in
    let rest = without_return found.rest in
    let whole : part ≡ front ++ b ∷ m ∷ found.rest = blanks_parts part ∙ ap (λ t. front ++ t) found.parts in
    let inner : without_return (m ∷ found.rest) ≡ m ∷ rest = return-front_of [] m found.rest (mark_no_return m found.is_mark) in
    let body : without_return part ≡ front ++ b ∷ m ∷ rest =
    ap without_return whole ∙ return-front_of front b (m ∷ found.rest) (digit_no_return b found.is_digit) ∙ ap (λ t. front ++ b ∷ t) inner in
    let from : after_blanks (without_return part) ≡ b ∷ m ∷ rest =
    ap after_blanks body ∙ after_blanks-front front b (m ∷ rest) (blanks_blank part) (digit_no_blank b found.is_digit) in
    let itself = clean_itself before part clean
    (λ labelled.
    let same = sym (after_blanks-label before part labelled) ∙ from in
    let colon : m ≡ 58 = cc same in
    mark_no_colon m found.is_mark colon) in
    absurd (mark_bad b m rest found.is_digit found.is_mark (line_unnamed (without_return part) (b ∷ m ∷ rest) from
    (digit_no_homes b (m ∷ rest) found.is_digit)
    (digit_no_cells b (m ∷ rest) found.is_digit) itself)))
    (λ same. same)
    (marked_or_not (after_blanks part))
