-- The lines of a drawing as blanks and words.
use Rattle.std.proofs.Common.{◌≡◌, ℕ, zero, suc, ◌+◌, ◌*◌, ◌<◌, ◌==◌, ◌&&◌, true, false, not, cond, Option, Some, None, List, [], ◌∷◌, ◌++◌, length, map, take, drop, get_or, refl, sym, ◌∙◌, ap, arith}
use Rattle.std.specs.Prelude.{codes, filter, slice_get}
use Rattle.std.specs.List.{flat_map, position_or_len}
use Rattle.std.proofs.lemmas.Bool.{le-ltb, ne_eqb}
use Rattle.std.proofs.lemmas.Bool.Decides.{nat_tests}
use Rattle.std.proofs.lemmas.List.{append-nil}
use Rattle.fc_cards.specs.Card.{rank, suit}
use Rattle.fc_cards.specs.Texts.{IsRank, card_text, rank_letter, suit_letter}
use Rattle.fc_cards.proofs.EachRank.{by_rank, by_suit}
use Rattle.fc_text.specs.Line.{after_blanks, after_name, begin_part, cell_names, foundation_names, is_blank, is_token, parts_of, sorted_line}
use Rattle.fc_text.specs.Printed.{cell_text, entries_text}
use Rattle.fc_text.specs.Spelling.{is_column}
use Rattle.fc_text.proofs.PartLemmas.{tokens-gap}
use Rattle.fc_text.proofs.PrintedPieces.{AllAbove, above-append}
use Rattle.fc_show.specs.Drawing.{held_entry, place_entry, row, style_without_mark}
use Rattle.fc_row_text.specs.RowText.{is_none, words_of}
use Rattle.fc_row_text.specs.Places.{is_row_gap}
use Rattle.fc_row_text.proofs.ByteLemmas.{AreAbove, above-lower}

-- cards, and what is held
abbrev pub Cards : List ℕ → Type 0
Cards [] = Unit {0}
Cards (c ∷ cards) = (c < 52) × Cards cards

abbrev pub AreHeld : List (Option ℕ) → Type 0
AreHeld [] = Unit {0}
AreHeld (None ∷ held) = AreHeld held
AreHeld (Some c ∷ held) = (c < 52) × AreHeld held

-- the letters of cards
pub rank_of : (c : ℕ) → c < 52 → IsRank (rank c)
rank_of c below = record { least = omega arith; greatest = omega arith }

rank_above : (r : ℕ) → IsRank r → 47 < rank_letter r
rank_above = by_rank (λ r. 47 < rank_letter r)
    (omega arith) (omega arith) (omega arith) (omega arith) (omega arith) (omega arith) (omega arith)
    (omega arith) (omega arith) (omega arith) (omega arith) (omega arith) (omega arith)

suit_above : (s : ℕ) → s < 4 → 32 < suit_letter s
suit_above = by_suit (λ s. 32 < suit_letter s) (omega arith) (omega arith) (omega arith) (omega arith)

pub card_above : (c : ℕ) → c < 52 → AllAbove 32 (card_text c)
card_above c below =
    let first = rank_above (rank c) (rank_of c below) in (omega arith, (suit_above (suit c) (omega arith), tt))

pub card_entry : (c : ℕ) → c < 52 → is_none (card_text c) ≡ false
card_entry c below =
    let first = rank_above (rank c) (rank_of c below) in
    ap (λ t. t && (suit_letter (suit c) == 45)) (ne_eqb (rank_letter (rank c)) 45 (λ e. absurd (omega (arith, e, first))))

-- parts between gaps, of which the empty ones are no words
pub no_gap : (b : ℕ) → 32 < b → is_row_gap b ≡ false
no_gap b above = le-ltb b 33 above

part-end : (part rest : List ℕ) → AllAbove 32 part → parts_of is_row_gap (part ++ 32 ∷ rest) ≡ part ∷ parts_of is_row_gap rest
part-end [] rest above = refl
part-end (b ∷ part) rest above =
    ap (λ t. cond t ([] ∷ parts_of is_row_gap (part ++ 32 ∷ rest)) (begin_part b (parts_of is_row_gap (part ++ 32 ∷ rest)))) (no_gap b above.0)
    ∙ ap (begin_part b) (part-end part rest above.1)

part-last : (b : ℕ) (part : List ℕ) → AllAbove 32 (b ∷ part) → parts_of is_row_gap (b ∷ part) ≡ (b ∷ part) ∷ []
part-last b [] above = ap (λ t. cond t ([] ∷ []) ((b ∷ []) ∷ [])) (no_gap b above.0)
part-last b (d ∷ part) above =
    ap (λ t. cond t ([] ∷ parts_of is_row_gap (d ∷ part)) (begin_part b (parts_of is_row_gap (d ∷ part)))) (no_gap b above.0)
    ∙ ap (begin_part b) (part-last d part above.1)

words-first : (part : List ℕ) (parts : List (List ℕ)) → AllAbove 32 part → AreAbove parts
    → words_of (part ++ entries_text parts) ≡ filter is_token (part ∷ parts)
words-first [] [] above all = refl
words-first (b ∷ part) [] above all =
    ap words_of (append-nil (b ∷ part)) ∙ ap (filter is_token) (part-last b part above)
words-first [] (u ∷ us) above all = tokens-gap is_row_gap 32 (u ++ entries_text us) refl ∙ words-first u us all.0 all.1
words-first (b ∷ part) (u ∷ us) above all =
    ap (filter is_token) (part-end (b ∷ part) (u ++ entries_text us) above)
    ∙ ap (λ ws. (b ∷ part) ∷ ws) (words-first u us all.0 all.1)

pub words-entries : (parts : List (List ℕ)) → AreAbove parts → words_of (entries_text parts) ≡ filter is_token parts
words-entries [] all = refl
words-entries (part ∷ parts) all =
    tokens-gap is_row_gap 32 (part ++ entries_text parts) refl ∙ words-first part parts all.0 all.1

pub entries-above : (parts : List (List ℕ)) → AreAbove parts → AllAbove 31 (entries_text parts)
entries-above [] all = tt
entries-above (part ∷ parts) all =
    (omega arith, above-append 31 part (entries_text parts) (above-lower part all.0) (entries-above parts all.1))

pub above-both : (xs ys : List (List ℕ)) → AreAbove xs → AreAbove ys → AreAbove (xs ++ ys)
above-both [] ys p q = q
above-both (x ∷ xs) ys p q = (p.0, above-both xs ys p.1 q)

-- what cells and foundations hold
abbrev pub held_parts : Option ℕ → List (List ℕ)
held_parts None = [] ∷ codes "-" ∷ []
held_parts (Some c) = card_text c ∷ []

pub held-is : (held : List (Option ℕ)) → flat_map (held_entry (style_without_mark false)) held ≡ entries_text (flat_map held_parts held)
held-is [] = refl
held-is (None ∷ held) = ap (λ t. 32 ∷ 32 ∷ 45 ∷ t) (held-is held)
held-is (Some c ∷ held) = ap (λ t. (32 ∷ card_text c) ++ t) (held-is held)

pub held-above : (held : List (Option ℕ)) → AreHeld held → AreAbove (flat_map held_parts held)
held-above [] all = tt
held-above (None ∷ held) all = (tt, ((omega arith, tt), held-above held all))
held-above (Some c ∷ held) all = (card_above c all.0, held-above held all.1)

pub held-words : (held : List (Option ℕ)) (parts : List (List ℕ))
    → filter is_token (flat_map held_parts held ++ parts) ≡ map cell_text held ++ filter is_token parts
held-words [] parts = refl
held-words (None ∷ held) parts = ap (λ ws. codes "-" ∷ ws) (held-words held parts)
held-words (Some c ∷ held) parts = ap (λ ws. card_text c ∷ ws) (held-words held parts)

-- the places of a row
abbrev pub place_parts : Option ℕ → List (List ℕ)
place_parts None = [] ∷ [] ∷ [] ∷ []
place_parts (Some c) = card_text c ∷ []

abbrev pub somes : List (Option ℕ) → List ℕ
somes [] = []
somes (None ∷ held) = somes held
somes (Some c ∷ held) = c ∷ somes held

abbrev pub places : List (Option ℕ) → List ℕ
places held = flat_map (place_entry (style_without_mark false)) held

pub places-are : (held : List (Option ℕ)) → places held ≡ entries_text (flat_map place_parts held)
places-are [] = refl
places-are (None ∷ held) = ap (λ t. 32 ∷ 32 ∷ 32 ∷ t) (places-are held)
places-are (Some c ∷ held) = ap (λ t. (32 ∷ card_text c) ++ t) (places-are held)

pub places-above : (held : List (Option ℕ)) → AreHeld held → AreAbove (flat_map place_parts held)
places-above [] all = tt
places-above (None ∷ held) all = (tt, (tt, (tt, places-above held all)))
places-above (Some c ∷ held) all = (card_above c all.0, places-above held all.1)

places-words : (held : List (Option ℕ)) → filter is_token (flat_map place_parts held) ≡ map card_text (somes held)
places-words [] = refl
places-words (None ∷ held) = places-words held
places-words (Some c ∷ held) = ap (λ ws. card_text c ∷ ws) (places-words held)

pub words-places : (held : List (Option ℕ)) → AreHeld held → words_of (places held) ≡ map card_text (somes held)
words-places held all =
    ap words_of (places-are held) ∙ words-entries (flat_map place_parts held) (places-above held all) ∙ places-words held

-- the card in a place, if there is one
abbrev pub place_word : Option ℕ → List ℕ
place_word None = []
place_word (Some c) = card_text c

-- a row begins, after blanks, with a card
no_blank : (b : ℕ) → 32 < b → is_blank b ≡ false
no_blank b above = grind (arith, nat_tests)

after-space : (rest : List ℕ) → after_blanks (32 ∷ rest) ≡ after_blanks rest
after-space rest =
    let n = position_or_len (λ b. not (is_blank b)) rest in
    let more : 1 + n ≡ suc n = omega arith in
    ap (λ k. drop k (32 ∷ rest)) more

after-letter : (b : ℕ) (rest : List ℕ) → 32 < b → after_blanks (b ∷ rest) ≡ b ∷ rest
after-letter b rest above = rw (no_blank b above) refl

card_line : (r : ℕ) → IsRank r → (rest : List ℕ)
    → is_column (sorted_line (after_name foundation_names (rank_letter r ∷ rest)) (after_name cell_names (rank_letter r ∷ rest)) (rank_letter r ∷ rest)).kind ≡ true
card_line =
    by_rank (λ r. (rest : List ℕ) → is_column (sorted_line (after_name foundation_names (rank_letter r ∷ rest)) (after_name cell_names (rank_letter r ∷ rest)) (rank_letter r ∷ rest)).kind ≡ true)
    (λ rest. refl) (λ rest. refl) (λ rest. refl) (λ rest. refl) (λ rest. refl) (λ rest. refl) (λ rest. refl) (λ rest. refl) (λ rest. refl)
    (λ rest. refl) (λ rest. refl) (λ rest. refl) (λ rest. refl)

abbrev pub IsColumnPiece : List ℕ → Type 0
IsColumnPiece piece = is_column (sorted_line (after_name foundation_names piece) (after_name cell_names piece) piece).kind ≡ true

pub places-column : (held : List (Option ℕ)) → AreHeld held → 0 < length (somes held) → IsColumnPiece (after_blanks (places held))
places-column [] all some = absurd (omega arith)
places-column (None ∷ held) all some =
    let skip = after-space (32 ∷ 32 ∷ places held) ∙ after-space (32 ∷ places held) ∙ after-space (places held) in
    ap (λ p. is_column (sorted_line (after_name foundation_names p) (after_name cell_names p) p).kind) skip ∙ places-column held all some
places-column (Some c ∷ held) all some =
    let p = card_above c all.0 in
    let rest = suit_letter (suit c) ∷ places held in
    let skip = after-space (rank_letter (rank c) ∷ rest) ∙ after-letter (rank_letter (rank c)) rest p.0 in
    ap (λ p. is_column (sorted_line (after_name foundation_names p) (after_name cell_names p) p).kind) skip
    ∙ card_line (rank c) (rank_of c all.0) rest

-- a row of the columns
pub row-is : (columns : List (List ℕ)) (i : ℕ) → row (style_without_mark false) columns i ≡ places (map (λ cards. slice_get cards i) columns)
row-is [] i = refl
row-is (cards ∷ columns) i = ap (λ t. place_entry (style_without_mark false) (slice_get cards i) ++ t) (row-is columns i)
