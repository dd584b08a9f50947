-- A drawing is put into the columns of its board's printed text.
use Rattle.std.proofs.Common.{◌≡◌, ℕ, zero, suc, ◌+◌, ◌*◌, ◌<◌, ◌≤◌, ◌⊎◌, Bool, true, false, cond, get_or, inl, inr, ⊎_elim, Option, Some, None, List, [], ◌∷◌, ◌++◌, length, map, take, refl, sym, ◌∙◌, ap, subst, append_assoc, arith}
use Rattle.std.specs.Prelude.{codes, nat_lt, slice_get}
use Rattle.std.specs.List.{flat_map, range_with_len}
use Rattle.std.specs.Option.{option_or}
use Rattle.std.proofs.lemmas.Bool.{cases_lt, cond-false, eq-eqb, le-ltb}
use Rattle.std.proofs.lemmas.Option.{slice_get-get_or, slice_get_past}
use Rattle.std.proofs.lemmas.List.{append-nil, get_or-map, length-append, length-map, length-take}
use Rattle.std.proofs.lemmas.List.FromFn.{fill_by_all, get_or-map-range_with_len}
use Rattle.fc_cards.specs.Texts.{card_text, with_line_end}
use Rattle.fc_position.specs.Board.{Board, home}
use Rattle.fc_position.specs.Position.{Fits, IsPosition}
use Rattle.fc_text.specs.Line.{lines_of}
use Rattle.fc_text.specs.Printed.{board_text, cell_text, entries_text, home_text}
use Rattle.fc_text.proofs.PrintedLines.{spells_board}
use Rattle.fc_text.proofs.PrintedPieces.{AllAbove, AreLines, lines_of-lines}
use Rattle.fc_text.proofs.PrintLemmas.{length-board_text}
use Rattle.fc_show.specs.Drawing.{drawing, held_entry, height, row, rows, top_names, top_row, style_without_mark}
use Rattle.fc_show.proofs.DrawingLemmas.{height_position}
use Rattle.fc_row_text.specs.Laws.{DrawingsAreBoards}
use Rattle.fc_row_text.specs.Places.{places_with, read_so, reading_of, room_behind, words_in}
use Rattle.fc_row_text.specs.RowText.{LeftOut, RowLine, cells_head, line_of_column, text_in_columns, columns_text, entry_at, first_fault, front_text, head_below, head_text, is_none, kind_below, left_above, left_by, left_with, line_reading, long_fault, names_below, no_places, none_left, row_text_fault, row_lines_below, row_lines, short_fault, words_of}
use Rattle.fc_row_text.specs.declared.spans.Span.{Span}
use Rattle.fc_row_text.specs.declared.faults.RowTextFault.TheVariants.{BadHead, LongRow}
use Rattle.fc_row_text.specs.declared.row_lines.RowLineKind.{RowLineKind}
use Rattle.fc_row_text.specs.declared.row_lines.RowLineKind.TheVariants.{Blank, Numbers, Names, Held, Row}
use Rattle.fc_row_text.proofs.DrawnHeads.{all-cards, cards-from, cells-are, held-from, held-long, held-take, homes-are, names-above, names-kind, names-long, numbers-above, numbers-kind, top-above, top-count, top-kind, tops}
use Rattle.fc_row_text.proofs.DrawnPlaces.{drawn-reading, drawn_entries, drawn_head, entries_from, numbers_line}
use Rattle.fc_row_text.proofs.DrawnRows.{AllCards, places-line, places-row, row-held, row-some, row_of, told-column, told-word, told_row}
use Rattle.fc_row_text.proofs.DrawnWords.{AreHeld, place_word, places, row-is, somes, words-places}
use Rattle.fc_row_text.proofs.FaultLemmas.{rows_sound}

-- the lines of a drawing
abbrev pub drawn_rows : List (List ℕ) → List ℕ → List (List ℕ)
drawn_rows columns is = map (row (style_without_mark false) columns) is

abbrev pub drawn_lines : ℕ → Board → List (List ℕ)
drawn_lines n b =
    top_names n ∷ top_row (style_without_mark false) n b ∷ [] ∷ numbers_line ∷ drawn_rows b.columns (range_with_len 0 (height b.columns))

rows-are : (columns : List (List ℕ)) (i count : ℕ)
    → rows (style_without_mark false) columns i count ≡ flat_map with_line_end (drawn_rows columns (range_with_len i count))
rows-are columns i zero = refl
rows-are columns i (suc count) = ap (λ t. with_line_end (row (style_without_mark false) columns i) ++ t) (rows-are columns (i + 1) count)

pub drawing-is : (n : ℕ) (b : Board) → drawing (style_without_mark false) n b ≡ flat_map with_line_end (drawn_lines n b)
drawing-is n b =
    let names = with_line_end (top_names n) in
    let held = with_line_end (top_row (style_without_mark false) n b) in
    let numbers = with_line_end numbers_line in
    let rest = rows (style_without_mark false) b.columns 0 (height b.columns) in
    append_assoc names (held ++ (with_line_end [] ++ numbers)) rest
    ∙ ap (λ t. names ++ t) (append_assoc held (with_line_end [] ++ numbers) rest ∙ ap (λ t. held ++ t) (append_assoc (with_line_end []) numbers rest))
    ∙ ap (λ t. names ++ (held ++ (with_line_end [] ++ (numbers ++ t)))) (rows-are b.columns 0 (height b.columns))

rows-lines : (columns : List (List ℕ)) (is : List ℕ) → AllCards columns → AreLines (drawn_rows columns is)
rows-lines columns [] p = tt
rows-lines columns (i ∷ is) p = (
  subst (AllAbove 31) (sym (row-is columns i)) (places-line (row_of columns i) (row-held columns i p)),
  rows-lines columns is p,
)

-- what they tell
abbrev other_line : RowLineKind → List ℕ → RowLine
other_line kind line = record { kind = kind; line = line; reading = read_so no_places true }

abbrev read_line : RowLineKind → List (Option Span) → List (Option Span) → List ℕ → RowLine
read_line kind head above line = record { kind = kind; line = line; reading = line_reading kind head above line }

-- the lines below one of this kind
abbrev lines_under : RowLineKind → List (Option Span) → List (Option Span) → RowLine → List (List ℕ) → Option ℕ → List RowLine
lines_under kind head above told lines names =
    row_lines_below (names_below names kind) (head_below kind head told.line) (places_with told.reading.entries above) lines

told-step : (names : Option ℕ) (head above : List (Option Span)) (line : List ℕ) (lines : List (List ℕ)) (kind : RowLineKind)
    → kind_below names line ≡ kind
    → row_lines_below names head above (line ∷ lines)
    ≡ read_line kind head above line ∷ lines_under kind head above (read_line kind head above line) lines names
told-step names head above line lines kind e =
    ap (λ k. read_line k head above line ∷ lines_under k head above (read_line k head above line) lines names) e

row-told : (columns : List (List ℕ)) (i : ℕ) (above : List (Option Span)) → AllCards columns → length columns ≡ 8
    → read_line Row drawn_head above (row (style_without_mark false) columns i) ≡ told_row columns i
row-told columns i above p long =
    let held = row_of columns i in
    let line = row (style_without_mark false) columns i in
    ap (λ r. record { kind = Row; line = line; reading = r })
    (ap (λ l. reading_of drawn_head above (words_in l)) (row-is columns i)
    ∙ drawn-reading above held (row-held columns i p) (length-map columns (λ (cards : List ℕ). slice_get cards i) ∙ long))

told-rows : (columns : List (List ℕ)) (above : List (Option Span)) (i count : ℕ) → AllCards columns → length columns ≡ 8
    → i + count ≤ height columns
    → row_lines_below None drawn_head above (drawn_rows columns (range_with_len i count)) ≡ map (told_row columns) (range_with_len i count)
told-rows columns above i zero p long within = refl
told-rows columns above i (suc count) p long within =
    let held = row_of columns i in
    let line = row (style_without_mark false) columns i in
    let lines = drawn_rows columns (range_with_len (i + 1) count) in
    let kind : kind_below None line ≡ Row =
    ap (kind_below None) (row-is columns i) ∙ places-row held (row-held columns i p) (row-some columns i (omega arith)) in
    told-step None drawn_head above line lines Row kind
    ∙ ap (λ told. told ∷ row_lines_below None drawn_head (places_with told.reading.entries above) lines) (row-told columns i above p long)
    ∙ ap (λ ls. told_row columns i ∷ ls) (told-rows columns (places_with (told_row columns i).reading.entries above) (i + 1) count p long (omega arith))

-- the cards of a position that fits
pub record Drawn (n : ℕ) (b : Board) : Type 0 where
  pub few : n ≤ 4
  pub position : IsPosition b
  pub held : AreHeld (take n b.cells)
  pub cards : AllCards b.columns

pub drawn : (n : ℕ) (b : Board) → n ≤ 4 → IsPosition b → Fits n b → Drawn n b
drawn n b few p fits =
    let spelled = (spells_board n b p fits few).spelled in
    record {
      few = few;
      position = p;
      held = held-take n b.cells (held-from b.cells (λ i within. (_, spelled.cells i (omega (arith, p.cells)))));
      cards = all-cards b.columns (λ i within. cards-from _ _ (spelled.columns i (omega (arith, p.columns))));
    }

pub drawn-above : (n : ℕ) (b : Board) → Drawn n b → AreLines (drawn_lines n b)
drawn-above n b d =
    (names-above n d.few, (top-above n b d.position d.held, (tt, (numbers-above, rows-lines b.columns (range_with_len 0 (height b.columns)) d.cards))))

abbrev told_rows : Board → List RowLine
told_rows b = map (told_row b.columns) (range_with_len 0 (height b.columns))

abbrev told_drawing : ℕ → Board → List RowLine
told_drawing n b =
    other_line (Names n) (top_names n) ∷ other_line (Held n) (top_row (style_without_mark false) n b)
    ∷ other_line Blank [] ∷ other_line Numbers numbers_line ∷ told_rows b

told-is : (n : ℕ) (b : Board) → Drawn n b → row_lines (drawing (style_without_mark false) n b) ≡ told_drawing n b
told-is n b d =
    let p = d.position in
    let names = top_names n in
    let held = top_row (style_without_mark false) n b in
    let rows = drawn_rows b.columns (range_with_len 0 (height b.columns)) in
    let one = other_line (Names n) names in
    let two = other_line (Held n) held in
    let three = other_line Blank [] in
    let four = other_line Numbers numbers_line in
    let a1 = places_with no_places no_places in
    let a2 = places_with no_places a1 in
    let a3 = places_with no_places a2 in
    let a4 = places_with no_places a3 in
    ap (row_lines_below None no_places no_places) (ap lines_of (drawing-is n b) ∙ lines_of-lines (drawn_lines n b) (drawn-above n b d))
    ∙ told-step None no_places no_places names (held ∷ [] ∷ numbers_line ∷ rows) (Names n) (names-kind n d.few)
    ∙ ap (λ ls. one ∷ ls) (told-step (Some n) no_places a1 held ([] ∷ numbers_line ∷ rows) (Held n) (top-kind n b d.few p d.held))
    ∙ ap (λ ls. one ∷ two ∷ ls) (told-step None no_places a2 [] (numbers_line ∷ rows) Blank refl)
    ∙ ap (λ ls. one ∷ two ∷ three ∷ ls) (told-step None no_places a3 numbers_line rows Numbers numbers-kind)
    ∙ ap (λ ls. one ∷ two ∷ three ∷ four ∷ ls) (told-rows b.columns a4 0 (height b.columns) d.cards p.columns (omega arith))

-- its text in columns
rows-front : (columns : List (List ℕ)) (is : List ℕ) → flat_map front_text (map (told_row columns) is) ≡ []
rows-front columns [] = refl
rows-front columns (i ∷ is) = rows-front columns is

homes_line : Board → List ℕ
homes_line b = codes "Foundations:" ++ entries_text (map (λ s. home_text s (home b s)) (2 ∷ 0 ∷ 1 ∷ 3 ∷ []))

cells_line : ℕ → Board → List ℕ
cells_line n b = codes "Freecells:" ++ entries_text (map cell_text (take n b.cells))

abbrev cards_line : List ℕ → List ℕ
cards_line cards = 58 ∷ entries_text (map card_text cards)

front-is : (n : ℕ) (b : Board) → Drawn n b → flat_map front_text (told_drawing n b) ≡ with_line_end (homes_line b) ++ with_line_end (cells_line n b)
unfolding homes_line cells_line
front-is n b d =
    let line = top_row (style_without_mark false) n b in
    ap (λ t. head_text n line ++ t) (rows-front b.columns (range_with_len 0 (height b.columns))) ∙ append-nil (head_text n line)
    ∙ ap (λ t. with_line_end t ++ with_line_end (cells_head n line)) (homes-are n b d.few d.position d.held)
    ∙ ap (λ t. with_line_end (homes_line b) ++ with_line_end t) (cells-are n b d.few d.position d.held)

ended-of : (f : ℕ → List ℕ) (is : List ℕ) → flat_map (λ i. with_line_end (f i)) is ≡ flat_map with_line_end (map f is)
ended-of f [] = refl
ended-of f (i ∷ is) = ap (λ t. with_line_end (f i) ++ t) (ended-of f is)

columns-are : (n : ℕ) (b : Board) (most : ℕ) → most ≡ 8 → Drawn n b
    → columns_text (told_drawing n b) most ≡ flat_map with_line_end (map cards_line b.columns)
unfolding columns_text
columns-are n b most eight d =
    let f = λ (k : ℕ). line_of_column k (told_drawing n b) in
    let long : length b.columns ≡ 8 = d.position.columns in
    ended-of f (range_with_len 0 most)
    ∙ ap (flat_map with_line_end) (sym (fill_by_all f (map cards_line b.columns) most [] (length-map b.columns cards_line ∙ long ∙ sym eight)
    (λ k below.
    get_or-map cards_line b.columns k [] [] (omega (arith, long))
    ∙ ap (λ t. 58 ∷ t) (sym (told-column b.columns k d.cards long (omega arith))))))

board-is : (n : ℕ) (b : Board)
    → (with_line_end (homes_line b) ++ with_line_end (cells_line n b)) ++ flat_map with_line_end (map cards_line b.columns) ≡ board_text n b
unfolding homes_line cells_line
board-is n b = append_assoc (with_line_end (homes_line b)) (with_line_end (cells_line n b)) (flat_map with_line_end (map cards_line b.columns))

text-is : (n : ℕ) (b : Board) → Drawn n b → text_in_columns (drawing (style_without_mark false) n b) ≡ board_text n b
unfolding text_in_columns
text-is n b d =
    ap (λ ls. flat_map front_text ls ++ columns_text ls 8) (told-is n b d)
    ∙ ap (λ t. t ++ columns_text (told_drawing n b) 8) (front-is n b d)
    ∙ ap (λ t. (with_line_end (homes_line b) ++ with_line_end (cells_line n b)) ++ t) (columns-are n b 8 refl d) ∙ board-is n b

-- it has no fault: below a row without a card of a column there is none
IsLeft : List (List ℕ) → ℕ → LeftOut → Type 0
IsLeft columns i left = (k : ℕ) → k < 8 → (get_or left k None ≡ None) ⊎ (length (get_or columns k []) ≤ i)

abbrev no_row : Option ℕ
no_row = None

left-first : (columns : List (List ℕ)) (i : ℕ) → IsLeft columns i none_left
unfolding IsLeft
left-first columns i k below = inl (get_or-map-range_with_len (λ (j : ℕ). no_row) 0 8 k k None below (omega arith))

same-none : (t : Bool) → cond t no_row no_row ≡ no_row
same-none true = refl
same-none false = refl

above-none : (columns : List (List ℕ)) (i : ℕ) (left : LeftOut) → AllCards columns → length columns ≡ 8 → IsLeft columns i left
    → (k count : ℕ) → k + count ≤ 8 → left_above left (told_row columns i) (range_with_len k count) ≡ None
unfolding IsLeft
above-none columns i left p long is k zero within = refl
above-none columns i left p long is k (suc count) within =
    let told = told_row columns i in
    let rest = left_above left told (range_with_len (k + 1) count) in
    ap (λ o. option_or o rest) (⊎_elim
    (λ none. ap (λ o. cond (is_none (entry_at k told)) None o) none ∙ same-none (is_none (entry_at k told)))
    (λ past. ap (λ e. cond (is_none e) None (get_or left k None))
    (told-word columns i k p long (omega arith) ∙ ap place_word (slice_get_past (get_or columns k []) i past)))
    (is k (omega arith)))
    ∙ above-none columns i left p long is (k + 1) count (omega arith)

-- a card's column isn't left out
left-card : (held : List (Option ℕ)) (k place room n number c : ℕ) → get_or held k None ≡ Some c
    → left_by number (get_or (entries_from place room n held) k None) ≡ None
left-card [] k place room n number c e = absurd (cc e)
left-card (None ∷ held) zero place room n number c e = absurd (cc e)
left-card (Some d ∷ held) zero place room n number c e = refl
left-card (None ∷ held) (suc k) place room n number c e =
    left-card held k (place + 3) (room_behind (room_behind (room_behind room 32) 32) 32) n number c e
left-card (Some d ∷ held) (suc k) place room n number c e = left-card held k (place + 3) 0 (n + 1) number c e

left-next : (columns : List (List ℕ)) (i number : ℕ) (left : LeftOut) → length columns ≡ 8 → IsLeft columns i left
    → IsLeft columns (i + 1) (left_with left number (drawn_entries (row_of columns i)))
unfolding IsLeft
left-next columns i number left long is k below =
    let entries = drawn_entries (row_of columns i) in
    let cards = get_or columns k [] in
    let value : get_or (left_with left number entries) k None ≡ option_or (get_or left k None) (left_by number (get_or entries k None)) =
    get_or-map-range_with_len (λ j. option_or (get_or left j None) (left_by number (get_or entries j None))) 0 8 k k None below (omega arith) in
    ⊎_elim
    (λ within. ⊎_elim
    (λ none. inl (value ∙ ap (λ o. option_or o (left_by number (get_or entries k None))) none
    ∙ left-card (row_of columns i) k 0 0 0 number (get_or cards i 0)
    (get_or-map (λ (cs : List ℕ). slice_get cs i) columns k [] None (omega arith) ∙ slice_get-get_or cards i 0 within)))
    (λ past. inr (omega arith))
    (is k below))
    (λ past. inr (omega arith))
    (cases_lt i (length cards))

row-short : (held : List (Option ℕ)) → length (somes held) ≤ length held
row-short [] = omega arith
row-short (None ∷ held) = let more = row-short held in omega arith
row-short (Some c ∷ held) = let more = row-short held in omega arith

row-count : (columns : List (List ℕ)) (i number : ℕ) → AllCards columns → length columns ≡ 8
    → long_fault number (row (style_without_mark false) columns i) ≡ None
row-count columns i number p long =
    let held = row_of columns i in
    let words = words-places held (row-held columns i p) in
    let count : length (words_of (row (style_without_mark false) columns i)) ≡ length (somes held) =
    ap (λ l. length (words_of l)) (row-is columns i) ∙ ap length words ∙ length-map (somes held) card_text in
    let eight = length-map columns (λ (cards : List ℕ). slice_get cards i) in
    cond-false _ (Some (LongRow number)) None
    (le-ltb 8 (length (words_of (row (style_without_mark false) columns i))) (omega (arith, count, eight, long, row-short held)))

rows-fault : (columns : List (List ℕ)) (left : LeftOut) (i number count : ℕ) → AllCards columns → length columns ≡ 8 → IsLeft columns i left
    → first_fault left number (map (told_row columns) (range_with_len i count)) ≡ None
rows-fault columns left i number zero p long is = refl
rows-fault columns left i number (suc count) p long is =
    let line = row (style_without_mark false) columns i in
    let rest = first_fault (left_with left number (drawn_entries (row_of columns i))) (number + 1) (map (told_row columns) (range_with_len (i + 1) count)) in
    ap (λ o. option_or (option_or (short_fault o) (long_fault number line)) rest) (above-none columns i left p long is 0 8 (omega arith))
    ∙ ap (λ o. option_or o rest) (row-count columns i number p long)
    ∙ rows-fault columns (left_with left number (drawn_entries (row_of columns i))) (i + 1) (number + 1) count p long (left-next columns i number left long is)

told-fault : (n : ℕ) (b : Board) → Drawn n b → first_fault none_left 1 (told_drawing n b) ≡ None
told-fault n b d =
    let words = length (words_of (top_row (style_without_mark false) n b)) in
    ap (λ t. option_or (cond t None (Some (BadHead 2))) (first_fault none_left 5 (told_rows b)))
    (eq-eqb words (n + 4) (top-count n b d.few d.position d.held))
    ∙ rows-fault b.columns none_left 0 5 (height b.columns) d.cards d.position.columns (left-first b.columns 0)

-- and is short
places-long : (held : List (Option ℕ)) → length (places held) ≡ 3 * length held
places-long [] = omega arith
places-long (None ∷ held) = let more = places-long held in omega arith
places-long (Some c ∷ held) = let more = places-long held in omega arith

rows-long : (columns : List (List ℕ)) (i count : ℕ) → length columns ≡ 8 → length (rows (style_without_mark false) columns i count) ≡ 25 * count
rows-long columns i zero long = omega arith
rows-long columns i (suc count) long =
    let held = row_of columns i in
    let line = ap length (row-is columns i) ∙ places-long held in
    let size = length-map columns (λ (cards : List ℕ). slice_get cards i) in
    let more = rows-long columns (i + 1) count long in
    let one = length-append (row (style_without_mark false) columns i) (10 ∷ []) in
    let both = length-append (with_line_end (row (style_without_mark false) columns i)) (rows (style_without_mark false) columns (i + 1) count) in
    omega (arith, line, size, more, one, both, long)

top-long : (n : ℕ) (b : Board) → n ≤ 4 → length (top_row (style_without_mark false) n b) ≤ 27
top-long n b few =
    let first = held-long (take n b.cells) in
    let four : length (tops b) ≡ 4 = refl in
    let rest = held-long (tops b) in
    let size = length-take n b.cells in
    let both = length-append (flat_map (held_entry (style_without_mark false)) (take n b.cells)) (codes "   " ++ flat_map (held_entry (style_without_mark false)) (tops b)) in
    omega (arith, first, four, rest, size, both)

drawing-short : (n : ℕ) (b : Board) → n ≤ 4 → IsPosition b → length (drawing (style_without_mark false) n b) ≤ 16384
drawing-short n b few p =
    let names = with_line_end (top_names n) in
    let held = with_line_end (top_row (style_without_mark false) n b) in
    let rest = rows (style_without_mark false) b.columns 0 (height b.columns) in
    let numbers = with_line_end [] ++ with_line_end numbers_line in
    let one = length-append (top_names n) (10 ∷ []) in
    let two = length-append (top_row (style_without_mark false) n b) (10 ∷ []) in
    let few_numbers : length numbers ≡ 26 = refl in
    let three = length-append held numbers in
    let four = length-append names (held ++ numbers) in
    let all = length-append (names ++ (held ++ numbers)) rest in
    omega (arith, names-long n few, top-long n b few, rows-long b.columns 0 (height b.columns) p.columns, height_position b p, one, two, few_numbers, three, four, all)

sound-is : (n : ℕ) (b : Board) → Drawn n b → row_text_fault (drawing (style_without_mark false) n b) ≡ None
sound-is n b d =
    let size = ap length (text-is n b d) in
    rows_sound (drawing (style_without_mark false) n b) (drawing-short n b d.few d.position) (ap (first_fault none_left 1) (told-is n b d) ∙ told-fault n b d)
    (omega (arith, size, length-board_text n b d.position d.few))

pub drawings_are : DrawingsAreBoards
drawings_are n b few p fits = let d = drawn n b few p fits in (sound-is n b d, text-is n b d)
