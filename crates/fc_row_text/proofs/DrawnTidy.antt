-- A drawing is tidy already.
use Rattle.std.proofs.Common.{◌≡◌, ℕ, ◌<◌, ◌≤◌, ◌&&◌, true, false, cond, Option, Some, None, List, [], ◌∷◌, ◌++◌, length, map, take, refl, sym, ◌∙◌, ap, subst, arith}
use Rattle.std.specs.Prelude.{All, codes, filter}
use Rattle.std.specs.List.{flat_map, range_with_len}
use Rattle.std.proofs.lemmas.Bool.{and_from, and_parts, or_from, or_parts}
use Rattle.std.proofs.lemmas.Bool.Decides.{nat_tests}
use Rattle.std.proofs.lemmas.List.{map-append}
use Rattle.std.proofs.lemmas.List.Elements.{All-cons, All-nil}
use Rattle.fc_cards.specs.Card.{rank, suit}
use Rattle.fc_cards.specs.Texts.{IsRank, card_text, rank_letter, suit_letter}
use Rattle.fc_cards.proofs.EachRank.{by_rank, by_suit}
use Rattle.fc_position.specs.Board.{Board}
use Rattle.fc_text.specs.Board.{Spells}
use Rattle.fc_text.specs.Line.{begin_part, is_blank, is_line_end, is_token, parts_of, tokens_of}
use Rattle.fc_text.specs.Printed.{cell_text}
use Rattle.fc_text.proofs.PrintedLines.{spells_board}
use Rattle.fc_text.proofs.PrintedPieces.{AllAbove, AreLines}
use Rattle.fc_typed.specs.Respelled.{card_spelling, is_dash_alone, is_rank, is_suit, respelled_card}
use Rattle.fc_typed.specs.Title.{any_token, has_word}
use Rattle.fc_typed.proofs.TidyBytes.{IsTidyLine, are_tidy, is_tidy_byte, tidy_already}
use Rattle.fc_show.specs.Drawing.{drawing, height, held_entry, row, top_names, top_row, style_without_mark}
use Rattle.fc_row_text.specs.Laws.{DrawingsAreTidy, DrawingsReadBack}
use Rattle.fc_row_text.specs.RowText.{text_in_columns, words_of}
use Rattle.fc_row_text.specs.Places.{is_row_gap}
use Rattle.fc_row_text.proofs.ByteLemmas.{NoEnds, lines-ended, no_end-above}
use Rattle.fc_row_text.proofs.DrawnBoards.{Drawn, drawing-is, drawings_are, drawn, drawn-above, drawn_lines, drawn_rows}
use Rattle.fc_row_text.proofs.DrawnHeads.{by_cells, cell_words, home_words, top-above, top-count, top-words, tops, tops-held}
use Rattle.fc_row_text.proofs.DrawnPlaces.{numbers_line}
use Rattle.fc_row_text.proofs.DrawnRows.{AllCards, places-line, row-held, row_of}
use Rattle.fc_row_text.proofs.DrawnWords.{AreHeld, places, rank_of, row-is, somes, words-places}

-- where no byte is below the space, words are tokens
gap_blank : (b : ℕ) → 31 < b → is_row_gap b ≡ is_blank b
gap_blank b above = grind (arith, nat_tests)

parts_same : (line : List ℕ) → AllAbove 31 line → parts_of is_row_gap line ≡ parts_of is_blank line
parts_same [] above = refl
parts_same (b ∷ line) above =
    ap (λ t. cond t ([] ∷ parts_of is_row_gap line) (begin_part b (parts_of is_row_gap line))) (gap_blank b above.0)
    ∙ ap (λ parts. cond (is_blank b) ([] ∷ parts) (begin_part b parts)) (parts_same line above.1)

-- so its words tell of a line that it is tidy
line_from : (line : List ℕ) (words : List (List ℕ)) → AllAbove 31 line → are_tidy line ≡ true → words_of line ≡ words
    → map respelled_card words ≡ words → is_dash_alone words ≡ false → any_token has_word words ≡ false → IsTidyLine line
line_from line words above bytes are kept dash short =
    let tokens : words ≡ tokens_of line = sym are ∙ ap (filter is_token) (parts_same line above) in
    record {
      bytes = bytes;
      tokens = subst (λ ts. map respelled_card ts ≡ ts) tokens kept;
      dash = subst (λ ts. is_dash_alone ts ≡ false) tokens dash;
      word = subst (λ ts. any_token has_word ts ≡ false) tokens short;
    }

-- cards are told by their ranks first
rank_tidy : (r : ℕ) → IsRank r → is_tidy_byte (rank_letter r) ≡ true
rank_tidy =
    by_rank (λ r. is_tidy_byte (rank_letter r) ≡ true) refl refl refl refl refl refl refl refl refl refl refl refl refl

suit_tidy : (s : ℕ) → s < 4 → is_tidy_byte (suit_letter s) ≡ true
suit_tidy = by_suit (λ s. is_tidy_byte (suit_letter s) ≡ true) refl refl refl refl

rank_no_suit : (r : ℕ) → IsRank r → is_suit (rank_letter r) ≡ false
rank_no_suit = by_rank (λ r. is_suit (rank_letter r) ≡ false) refl refl refl refl refl refl refl refl refl refl refl refl refl

card_tidy : (c : ℕ) (rest : List ℕ) → c < 52 → are_tidy rest ≡ true → are_tidy (card_text c ++ rest) ≡ true
card_tidy c rest below tidy =
    and_from _ _ (rank_tidy (rank c) (rank_of c below)) (and_from _ _ (suit_tidy (suit c) (omega arith)) tidy)

card_kept : (c : ℕ) → c < 52 → respelled_card (card_text c) ≡ card_text c
card_kept c below =
    let first = rank_letter (rank c) in
    let others = suit_letter (suit c) ∷ [] in
    ap (λ t. card_spelling (first ∷ others) (cond (t && is_rank others) (Some (first, others)) None))
    (rank_no_suit (rank c) (rank_of c below))

-- what is held
held_tidy : (held : List (Option ℕ)) → AreHeld held → are_tidy (flat_map (held_entry (style_without_mark false)) held) ≡ true
held_tidy [] all = refl
held_tidy (None ∷ held) all = held_tidy held all
held_tidy (Some c ∷ held) all = card_tidy c (flat_map (held_entry (style_without_mark false)) held) all.0 (held_tidy held all.1)

held_kept : (held : List (Option ℕ)) → AreHeld held → map respelled_card (map cell_text held) ≡ map cell_text held
held_kept [] all = refl
held_kept (None ∷ held) all = ap (λ words. codes "-" ∷ words) (held_kept held all)
held_kept (Some c ∷ held) all =
    ap (λ word. word ∷ map respelled_card (map cell_text held)) (card_kept c all.0)
    ∙ ap (λ words. card_text c ∷ words) (held_kept held all.1)

-- cards and dashes have no word
held_short : (held : List (Option ℕ)) → any_token has_word (map cell_text held) ≡ false
held_short [] = refl
held_short (None ∷ held) = held_short held
held_short (Some c ∷ held) = held_short held

cards_short : (cards : List ℕ) → any_token has_word (map card_text cards) ≡ false
cards_short [] = refl
cards_short (c ∷ cards) = cards_short cards

short_both : (xs ys : List (List ℕ)) → any_token has_word xs ≡ false → any_token has_word ys ≡ false → any_token has_word (xs ++ ys) ≡ false
short_both [] ys p q = q
short_both (x ∷ xs) ys p q =
    let both = or_parts (has_word x) (any_token has_word xs) p in or_from _ _ both.0 (short_both xs ys both.1 q)

tidy_both : (xs ys : List ℕ) → are_tidy xs ≡ true → are_tidy ys ≡ true → are_tidy (xs ++ ys) ≡ true
tidy_both [] ys p q = q
tidy_both (x ∷ xs) ys p q =
    let both = and_parts (is_tidy_byte x) (are_tidy xs) p in and_from _ _ both.0 (tidy_both xs ys both.1 q)

-- several tokens are no dash alone
several : (tokens : List (List ℕ)) → 1 < length tokens → is_dash_alone tokens ≡ false
several [] some = refl
several ([] ∷ tokens) some = refl
several ((b ∷ []) ∷ []) some = absurd (omega arith)
several ((b ∷ []) ∷ token ∷ tokens) some = refl
several ((b ∷ c ∷ bytes) ∷ tokens) some = refl

top_tidy : (n : ℕ) (b : Board) → Drawn n b → IsTidyLine (top_row (style_without_mark false) n b)
top_tidy n b d =
    let line = top_row (style_without_mark false) n b in
    let cells = take n b.cells in
    let words = cell_words n b ++ home_words b in
    let are = top-words n b d.position d.held in
    let founds = tops-held b d.position in
    let kept : map respelled_card words ≡ words =
    map-append respelled_card (cell_words n b) (home_words b)
    ∙ ap (λ ws. ws ++ map respelled_card (home_words b)) (held_kept cells d.held)
    ∙ ap (λ ws. cell_words n b ++ ws) (held_kept (tops b) founds) in
    line_from line words (top-above n b d.position d.held)
    (tidy_both (flat_map (held_entry (style_without_mark false)) cells) _ (held_tidy cells d.held) (held_tidy (tops b) founds)) are kept
    (several words (omega (arith, sym (ap length are) ∙ top-count n b d.few d.position d.held)))
    (short_both (cell_words n b) (home_words b) (held_short cells) (held_short (tops b)))

-- rows
places_tidy : (held : List (Option ℕ)) → AreHeld held → are_tidy (places held) ≡ true
places_tidy [] all = refl
places_tidy (None ∷ held) all = places_tidy held all
places_tidy (Some c ∷ held) all = card_tidy c (places held) all.0 (places_tidy held all.1)

places_kept : (held : List (Option ℕ)) → AreHeld held → map respelled_card (map card_text (somes held)) ≡ map card_text (somes held)
places_kept [] all = refl
places_kept (None ∷ held) all = places_kept held all
places_kept (Some c ∷ held) all =
    ap (λ word. word ∷ map respelled_card (map card_text (somes held))) (card_kept c all.0)
    ∙ ap (λ words. card_text c ∷ words) (places_kept held all.1)

cards_alone : (cards : List ℕ) → is_dash_alone (map card_text cards) ≡ false
cards_alone [] = refl
cards_alone (c ∷ cards) = refl

places_line : (held : List (Option ℕ)) → AreHeld held → IsTidyLine (places held)
places_line held all =
    line_from (places held) (map card_text (somes held)) (places-line held all) (places_tidy held all) (words-places held all)
    (places_kept held all) (cards_alone (somes held)) (cards_short (somes held))

rows_tidy : (columns : List (List ℕ)) (is : List ℕ) → AllCards columns → All IsTidyLine (drawn_rows columns is)
rows_tidy columns [] p = All-nil IsTidyLine
rows_tidy columns (i ∷ is) p =
    All-cons IsTidyLine (row (style_without_mark false) columns i) (drawn_rows columns is)
    (subst IsTidyLine (sym (row-is columns i)) (places_line (row_of columns i) (row-held columns i p))) (rows_tidy columns is p)

-- names
names_tidy : (n : ℕ) → n ≤ 4 → IsTidyLine (top_names n)
names_tidy =
    by_cells (λ n. IsTidyLine (top_names n))
    (record { bytes = refl; tokens = refl; dash = refl; word = refl })
    (record { bytes = refl; tokens = refl; dash = refl; word = refl })
    (record { bytes = refl; tokens = refl; dash = refl; word = refl })
    (record { bytes = refl; tokens = refl; dash = refl; word = refl })
    (record { bytes = refl; tokens = refl; dash = refl; word = refl })

none_tidy : IsTidyLine []
none_tidy = record { bytes = refl; tokens = refl; dash = refl; word = refl }

numbers_tidy : IsTidyLine numbers_line
numbers_tidy = record { bytes = refl; tokens = refl; dash = refl; word = refl }

-- all lines
lines_tidy : (n : ℕ) (b : Board) → Drawn n b → All IsTidyLine (drawn_lines n b)
lines_tidy n b d =
    let top = top_row (style_without_mark false) n b in
    let rows = drawn_rows b.columns (range_with_len 0 (height b.columns)) in
    All-cons IsTidyLine (top_names n) (top ∷ [] ∷ numbers_line ∷ rows) (names_tidy n d.few)
    (All-cons IsTidyLine top ([] ∷ numbers_line ∷ rows) (top_tidy n b d)
    (All-cons IsTidyLine [] (numbers_line ∷ rows) none_tidy
    (All-cons IsTidyLine numbers_line rows numbers_tidy (rows_tidy b.columns (range_with_len 0 (height b.columns)) d.cards))))

no_ends : (lines : List (List ℕ)) → AreLines lines → NoEnds lines
no_ends [] p = tt
no_ends (line ∷ lines) p = (no_end-above line p.0, no_ends lines p.1)

-- so the drawing of a position is tidy already
pub drawings_tidy : DrawingsAreTidy
drawings_tidy n b few p fits =
    let d = drawn n b few p fits in
    let lines = drawn_lines n b in
    let parts : parts_of is_line_end (drawing (style_without_mark false) n b) ≡ lines =
    ap (parts_of is_line_end) (drawing-is n b) ∙ lines-ended lines (no_ends lines (drawn-above n b d)) in
    tidy_already (drawing (style_without_mark false) n b) (subst (All IsTidyLine) (sym parts) (lines_tidy n b d))

-- and is read back
pub drawings_read : DrawingsReadBack
drawings_read n b few p fits =
    let made = drawings_are n b few p fits in
    subst (λ t. Spells n t b) (sym (ap text_in_columns (drawings_tidy n b few p fits) ∙ made.1)) (spells_board n b p fits few)
