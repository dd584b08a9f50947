-- Words of the lists that people write.
use Rattle.std.proofs.Common.{◌≡◌, inl, ℕ, Option, Some, None, true, false, cond, List, [], ◌∷◌, refl, sym, ◌∙◌, ap}
use Rattle.std.specs.Prelude.{IfSome, filter, map}
use Rattle.fc_moves.specs.declared.steps.Move.{Move}
use Rattle.fc_text.specs.Line.{is_token}
use Rattle.fc_replay.specs.Token.{SpellsMove, move_tokens}
use Rattle.fc_lists.specs.Word.{IsMoveWord, after_links, after_number, is_link, words_of}

-- two letters alone
two_letters : (word : List ℕ) (m : Move) → SpellsMove word m → IsMoveWord word m
two_letters [] m spells = absurd (cc (spells.1))
two_letters (a ∷ []) m spells = absurd (cc (spells.1))
two_letters (a ∷ b ∷ []) m spells = (a, b, [], inl refl, spells, refl)
two_letters (a ∷ b ∷ c ∷ more) m spells = absurd (cc (spells.1))

-- a move that is two letters alone
pub letters_alone : (word : List ℕ) (read : Option Move) → IfSome read (SpellsMove word) → IfSome read (IsMoveWord word)
letters_alone word None spells = tt
letters_alone word (Some m) spells = two_letters word m spells

-- a word comes first where the first token is more than a number
filter_more : (word : List ℕ) (words : List (List ℕ)) → is_token word ≡ true → filter is_token (word ∷ words) ≡ word ∷ filter is_token words
filter_more word words is = ap (λ b. cond b (word ∷ filter is_token words) (filter is_token words)) is

filter_less : (word : List ℕ) (words : List (List ℕ)) → is_token word ≡ false → filter is_token (word ∷ words) ≡ filter is_token words
filter_less word words is = ap (λ b. cond b (word ∷ filter is_token words) (filter is_token words)) is

pub words_more : (list rest token word : List ℕ) → move_tokens list ≡ token ∷ move_tokens rest → word ≡ after_number token → is_token word ≡ true
    → words_of list ≡ word ∷ words_of rest
words_more list rest token word first same is =
    ap (λ ts. filter is_token (map after_number ts)) first
    ∙ ap (λ w. filter is_token (w ∷ map after_number (move_tokens rest))) (sym same)
    ∙ filter_more word (map after_number (move_tokens rest)) is

-- and none where it is a number alone
pub words_less : (list rest token word : List ℕ) → move_tokens list ≡ token ∷ move_tokens rest → word ≡ after_number token → is_token word ≡ false
    → words_of list ≡ words_of rest
words_less list rest token word first same is =
    ap (λ ts. filter is_token (map after_number ts)) first
    ∙ ap (λ w. filter is_token (w ∷ map after_number (move_tokens rest))) (sym same)
    ∙ filter_less word (map after_number (move_tokens rest)) is

-- no words are left of no tokens
pub words_none : (list : List ℕ) → move_tokens list ≡ [] → words_of list ≡ []
words_none list none = ap (λ ts. filter is_token (map after_number ts)) none

-- a link is passed over
pub links_more : (word : List ℕ) (words : List (List ℕ)) → is_link word ≡ true → after_links (word ∷ words) ≡ after_links words
links_more word words is = ap (λ b. cond b (after_links words) (word ∷ words)) is

-- another word isn't
pub links_end : (word : List ℕ) (words : List (List ℕ)) → is_link word ≡ false → after_links (word ∷ words) ≡ word ∷ words
links_end word words is = ap (λ b. cond b (after_links words) (word ∷ words)) is
