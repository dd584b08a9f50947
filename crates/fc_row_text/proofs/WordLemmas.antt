-- What the loops over the words of a text keep.
use Rattle.std.proofs.Common.{◌≡◌, ℕ, zero, suc, ◌-◌, ◌<◌, ◌≤◌, ◌==◌, ◌&&◌, Bool, true, false, List, [], ◌∷◌, length, drop, get_or, refl, sym, ◌∙◌, ap, arith}
use Rattle.std.proofs.lemmas.Bool.{ne_eqb}
use Rattle.fc_row_text.specs.RowText.{are_letters, is_letter_alone}

-- the first of the words that are left
pub word_first : (words others : List (List ℕ)) (word whole : List ℕ) (left : ℕ) → words ≡ word ∷ others → left ≡ 0
    → get_or words left [] ≡ whole → word ≡ whole
word_first words others word whole left steps none so =
    sym (ap (λ ts. get_or ts 0 []) steps) ∙ ap (λ n. get_or words n []) (sym none) ∙ so

-- one of those behind it
pub word_next : (words others : List (List ℕ)) (word whole : List ℕ) (left : ℕ) → words ≡ word ∷ others → (left ≡ 0 → ⊥)
    → get_or words left [] ≡ whole → get_or others (left - 1) [] ≡ whole
word_next words others word whole zero steps some so = absurd (some refl)
word_next words others word whole (suc n) steps some so =
    let less : suc n - 1 ≡ n = omega arith in
    ap (λ k. get_or others k []) less ∙ sym (ap (λ ts. get_or ts (suc n) []) steps) ∙ so

-- past the last one there is nothing
pub word_none : (words : List (List ℕ)) (whole : List ℕ) (left : ℕ) → words ≡ [] → get_or words left [] ≡ whole → [] ≡ whole
word_none words whole left none so = sym (ap (λ ts. get_or ts left []) none) ∙ so

-- a word is the first of the letters that are left
pub letter_next : (words others : List (List ℕ)) (word letters : List ℕ) (whole : Bool) → words ≡ word ∷ others
    → 1 ≤ length letters → is_letter_alone (get_or letters 0 0) word ≡ true → are_letters words letters ≡ whole
    → are_letters others (drop 1 letters) ≡ whole
letter_next words others word [] whole steps some is so = absurd (omega arith)
letter_next words others word (b ∷ letters) whole steps some is so =
    sym (ap (λ ts. are_letters ts (b ∷ letters)) steps ∙ ap (λ t. t && are_letters others letters) is) ∙ so

-- a word is another
pub letter_other : (words others : List (List ℕ)) (word letters : List ℕ) (whole : Bool) → words ≡ word ∷ others
    → 1 ≤ length letters → is_letter_alone (get_or letters 0 0) word ≡ false → are_letters words letters ≡ whole → false ≡ whole
letter_other words others word [] whole steps some is so = absurd (omega arith)
letter_other words others word (b ∷ letters) whole steps some is so =
    sym (ap (λ ts. are_letters ts (b ∷ letters)) steps ∙ ap (λ t. t && are_letters others letters) is) ∙ so

-- no letter is left for a word
pub letter_none : (words others : List (List ℕ)) (word letters : List ℕ) (whole : Bool) → words ≡ word ∷ others
    → length letters < 1 → are_letters words letters ≡ whole → false ≡ whole
letter_none words others word [] whole steps none so = sym (ap (λ ts. are_letters ts []) steps) ∙ so
letter_none words others word (b ∷ letters) whole steps none so = absurd (omega arith)

-- no word is left for the letters
pub letters_all : (words : List (List ℕ)) (letters : List ℕ) (whole : Bool) → words ≡ [] → are_letters words letters ≡ whole
    → (length letters == 0) ≡ whole
letters_all words [] whole none so = sym (ap (λ ts. are_letters ts []) none) ∙ so
letters_all words (b ∷ letters) whole none so =
    ne_eqb (length (b ∷ letters)) 0 (λ e. absurd (omega (arith, e))) ∙ sym (ap (λ ts. are_letters ts (b ∷ letters)) none) ∙ so
