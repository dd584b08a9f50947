-- What the rows of a drawing tell of the columns.
use Rattle.std.proofs.Common.{◌≡◌, ℕ, zero, suc, ◌+◌, ◌*◌, ◌<◌, ◌≤◌, ◌==◌, true, false, cond, Option, Some, None, List, [], ◌∷◌, ◌++◌, length, map, take, drop, get_or, refl, sym, ◌∙◌, ap, subst, ⊎_elim, arith}
use Rattle.std.specs.Prelude.{slice_get}
use Rattle.std.specs.List.{flat_map, range_with_len}
use Rattle.std.proofs.lemmas.Bool.{cases_lt, cond-true, ne_eqb}
use Rattle.std.proofs.lemmas.List.{drop_all, drop_more, length-map, get_or-map}
use Rattle.std.proofs.lemmas.Option.{slice_get-get_or, slice_get_past}
use Rattle.fc_cards.specs.Texts.{card_text}
use Rattle.fc_text.specs.Line.{line_of, without_return}
use Rattle.fc_text.specs.Printed.{entries_text}
use Rattle.fc_text.specs.Spelling.{is_column}
use Rattle.fc_text.proofs.PrintedPieces.{AllAbove}
use Rattle.fc_show.specs.Drawing.{height, row, style_without_mark}
use Rattle.fc_row_text.specs.RowText.{RowLine, are_numbers, cells_named, entry_at, entry_of, entry_text, held_or, kind_below, named_or_row, own_kind, entry_text_at, words_of}
use Rattle.fc_row_text.specs.declared.row_lines.RowLineKind.TheVariants.{Blank, Kept, Row}
use Rattle.fc_row_text.proofs.ByteLemmas.{without_return-same}
use Rattle.fc_row_text.proofs.DrawnPlaces.{drawn-entry, drawn_entries, drawn_reading}
use Rattle.fc_row_text.proofs.DrawnWords.{AreHeld, Cards, card_entry, entries-above, place_word, places, places-above, places-are, places-column, row-is, somes, words-places}

-- names and numbers are shorter than cards
no_names : (c : ℕ) (words : List (List ℕ)) → cells_named (card_text c ∷ words) ≡ None
unfolding cells_named
no_names c words = refl

no_numbers : (c : ℕ) (words : List (List ℕ)) → are_numbers (card_text c ∷ words) ≡ false
unfolding are_numbers
no_numbers c words = refl

-- a row with a card is a row
pub places-line : (held : List (Option ℕ)) → AreHeld held → AllAbove 31 (places held)
places-line held all = subst (AllAbove 31) (sym (places-are held)) (entries-above _ (places-above held all))

row_words : (words : List (List ℕ)) (cards : List ℕ) → words ≡ map card_text cards → 0 < length cards
    → ((length words == 0) ≡ false) × (cells_named words ≡ None) × (are_numbers words ≡ false)
row_words words [] e some = absurd (omega arith)
row_words words (c ∷ cards) e some = (
  ne_eqb (length words) 0 (λ none. absurd (omega (arith, none, ap length e))),
  ap cells_named e ∙ no_names c (map card_text cards),
  ap are_numbers e ∙ no_numbers c (map card_text cards),
)

pub places-row : (held : List (Option ℕ)) → AreHeld held → 0 < length (somes held) → kind_below None (places held) ≡ Row
places-row held all some =
    let words = words_of (places held) in
    let tests = row_words words (somes held) (words-places held all) some in
    let own = named_or_row (cells_named words) (are_numbers words) in
    let column : is_column (line_of (without_return (places held))).kind ≡ true =
    ap (λ l. is_column (line_of l).kind) (without_return-same (places held) (places-line held all)) ∙ places-column held all some in
    ap (λ t. cond t Blank (held_or None (own_kind (places held)))) tests.0 ∙ cond-true _ own Kept column
    ∙ ap (λ n. named_or_row n (are_numbers words)) tests.1 ∙ ap (named_or_row None) tests.2

-- and has the card of a column in its place
held-at : (held : List (Option ℕ)) (k : ℕ) → AreHeld held → AreHeld (get_or held k None ∷ [])
held-at [] k all = tt
held-at (None ∷ held) zero all = tt
held-at (Some c ∷ held) zero all = (all.0, tt)
held-at (None ∷ held) (suc k) all = held-at held k all
held-at (Some c ∷ held) (suc k) all = held-at held k all.1

-- the text of a place
abbrev place_text : Option ℕ → List ℕ
place_text None = []
place_text (Some c) = 32 ∷ card_text c

place-text : (o : Option ℕ) → AreHeld (o ∷ []) → entry_text (place_word o) ≡ place_text o
place-text None all = refl
place-text (Some c) all = ap (λ t. cond t [] (32 ∷ card_text c)) (card_entry c all.0)

-- all columns have cards
abbrev pub AllCards : List (List ℕ) → Type 0
AllCards [] = Unit {0}
AllCards (cards ∷ columns) = Cards cards × AllCards columns

abbrev pub row_of : List (List ℕ) → ℕ → List (Option ℕ)
row_of columns i = map (λ (cards : List ℕ). slice_get cards i) columns

card-held : (cards : List ℕ) (i : ℕ) (held : List (Option ℕ)) → Cards cards → AreHeld held → AreHeld (slice_get cards i ∷ held)
card-held [] i held p q = q
card-held (c ∷ cards) zero held p q = (p.0, q)
card-held (c ∷ cards) (suc i) held p q = card-held cards i held p.1 q

pub row-held : (columns : List (List ℕ)) (i : ℕ) → AllCards columns → AreHeld (row_of columns i)
row-held [] i p = tt
row-held (cards ∷ columns) i p = card-held cards i (row_of columns i) p.0 (row-held columns i p.1)

-- a row within the height has a card
somes-here : (o : Option ℕ) (held : List (Option ℕ)) → length (somes held) ≤ length (somes (o ∷ held))
somes-here None held = omega arith
somes-here (Some c) held = omega arith

somes-first : (cards : List ℕ) (i : ℕ) (held : List (Option ℕ)) → i < length cards → 0 < length (somes (slice_get cards i ∷ held))
somes-first [] i held within = absurd (omega arith)
somes-first (c ∷ cards) zero held within = omega arith
somes-first (c ∷ cards) (suc i) held within = somes-first cards i held (omega arith)

pub row-some : (columns : List (List ℕ)) (i : ℕ) → i < height columns → 0 < length (somes (row_of columns i))
row-some [] i below = absurd (omega arith)
row-some (cards ∷ columns) i below = ⊎_elim
    (λ here. somes-first cards i (row_of columns i) here)
    (λ past. let more = row-some columns i (omega arith) in omega (arith, more, somes-here (slice_get cards i) (row_of columns i)))
    (cases_lt i (length cards))

-- no column is longer than the height
pub column-height : (columns : List (List ℕ)) (k : ℕ) → length (get_or columns k []) ≤ height columns
column-height [] k = omega arith
column-height (cards ∷ columns) zero = omega arith
column-height (cards ∷ columns) (suc k) = let more = column-height columns k in omega arith

-- the rows of a drawing say of a column its cards
abbrev pub told_row : List (List ℕ) → ℕ → RowLine
told_row columns i = record {
  kind = Row;
  line = row (style_without_mark false) columns i;
  reading = drawn_reading (row_of columns i);
}

pub told-word : (columns : List (List ℕ)) (i k : ℕ) → AllCards columns → length columns ≡ 8 → k < 8
    → entry_at k (told_row columns i) ≡ place_word (slice_get (get_or columns k []) i)
told-word columns i k p eight below =
    let held = row_of columns i in
    let here : get_or held k None ≡ slice_get (get_or columns k []) i =
    get_or-map (λ (cards : List ℕ). slice_get cards i) columns k [] None (omega arith) in
    ap (entry_of (get_or (drawn_entries held) k None)) (row-is columns i) ∙ drawn-entry held k (row-held columns i p) ∙ ap place_word here

told-entry : (columns : List (List ℕ)) (i k : ℕ) → AllCards columns → length columns ≡ 8 → k < 8
    → entry_text_at k (told_row columns i) ≡ place_text (slice_get (get_or columns k []) i)
told-entry columns i k p eight below =
    let o = slice_get (get_or columns k []) i in
    let here : get_or (row_of columns i) k None ≡ o =
    get_or-map (λ (cards : List ℕ). slice_get cards i) columns k [] None (omega arith) in
    ap entry_text (told-word columns i k p eight below)
    ∙ place-text o (subst (λ t. AreHeld (t ∷ [])) here (held-at (row_of columns i) k (row-held columns i p)))

place-past : (cards : List ℕ) (i : ℕ) → length cards ≤ i → place_text (slice_get cards i) ≡ []
place-past cards i past = ap place_text (slice_get_past cards i past)

cards-rest : (cards : List ℕ) (i count : ℕ) → length cards ≤ i + count
    → flat_map (λ j. place_text (slice_get cards j)) (range_with_len i count) ≡ entries_text (map card_text (drop i cards))
cards-rest cards i zero all = sym (ap (λ cs. entries_text (map card_text cs)) (drop_all i cards (omega arith)))
cards-rest cards i (suc count) all =
    let rest = flat_map (λ j. place_text (slice_get cards j)) (range_with_len (i + 1) count) in
    let more = cards-rest cards (i + 1) count (omega arith) in
    ⊎_elim
    (λ within.
    ap (λ o. place_text o ++ rest) (slice_get-get_or cards i 0 within) ∙ ap (λ t. (32 ∷ card_text (get_or cards i 0)) ++ t) more
    ∙ sym (ap (λ cs. entries_text (map card_text cs)) (drop_more cards i 0 within)))
    (λ past.
    ap (λ t. t ++ rest) (place-past cards i past) ∙ more ∙ ap (λ cs. entries_text (map card_text cs)) (drop_all (i + 1) cards (omega arith))
    ∙ sym (ap (λ cs. entries_text (map card_text cs)) (drop_all i cards past)))
    (cases_lt i (length cards))

told-rest : (columns : List (List ℕ)) (k : ℕ) (is : List ℕ) → AllCards columns → length columns ≡ 8 → k < 8
    → flat_map (entry_text_at k) (map (told_row columns) is) ≡ flat_map (λ j. place_text (slice_get (get_or columns k []) j)) is
told-rest columns k [] p eight below = refl
told-rest columns k (i ∷ is) p eight below =
    ap (λ t. t ++ flat_map (entry_text_at k) (map (told_row columns) is)) (told-entry columns i k p eight below)
    ∙ ap (λ t. place_text (slice_get (get_or columns k []) i) ++ t) (told-rest columns k is p eight below)

pub told-column : (columns : List (List ℕ)) (k : ℕ) → AllCards columns → length columns ≡ 8 → k < 8
    → flat_map (entry_text_at k) (map (told_row columns) (range_with_len 0 (height columns)))
    ≡ entries_text (map card_text (get_or columns k []))
told-column columns k p eight below =
    told-rest columns k (range_with_len 0 (height columns)) p eight below
    ∙ cards-rest (get_or columns k []) 0 (height columns) (let most = column-height columns k in omega arith)
