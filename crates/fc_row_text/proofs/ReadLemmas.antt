-- The text in columns is read as the entries of the rows.
use Rattle.std.proofs.Common.{◌≡◌, ℕ, ◌+◌, ◌<◌, ◌==◌, Bool, true, false, cond, Option, Some, None, List, [], ◌∷◌, ◌++◌, map, refl, sym, ◌∙◌, ap, subst, ⊎_elim, arith, rules}
use Rattle.std.specs.Prelude.{codes, filter, length, slice_index_or}
use Rattle.std.specs.List.{AllZip, flat_map, range_with_len}
use Rattle.std.proofs.lemmas.Bool.{cases_Bool, cond-true, cond_both}
use Rattle.std.proofs.lemmas.List.{append-nil, map-append}
use Rattle.std.proofs.lemmas.List.Concat.{flat_map-append}
use Rattle.std.proofs.lemmas.List.FromFn.{get_or-map-range_with_len}
use Rattle.fc_cards.specs.Texts.{with_line_end}
use Rattle.fc_position.specs.Board.{column, front_of}
use Rattle.fc_text.specs.Line.{Line, board_lines, line_of, lines_of, tokens_of, without_return}
use Rattle.fc_text.specs.Printed.{entries_text}
use Rattle.fc_text.specs.Spelling.{SpellsCard, is_column}
use Rattle.fc_text.proofs.PrintedPieces.{AllAbove, ArePrinted, above-append, entries-above, tokens_of-entries}
use Rattle.fc_row_text.specs.Laws.{EntriesAreColumns, entries_of, row_entry, some_entry}
use Rattle.fc_row_text.specs.RowText.{RowLine, are_numbers, cells_named, cells_head, line_of_column, text_in_columns, columns_text, entry_at, entry_text, front_text, has_suit, held_or, home_entry, homes_head, is_letter_alone, is_none, is_row, kind_below, named_or_row, names_below, no_places, own_kind, entry_text_at, head_below, row_line_below, row_lines_below, row_lines, word_at, words_of}
use Rattle.fc_row_text.specs.Places.{places_with}
use Rattle.fc_row_text.specs.declared.readings.Reading.{Reading}
use Rattle.fc_row_text.specs.declared.spans.Span.{Span}
use Rattle.fc_row_text.specs.declared.row_lines.RowLineKind.{RowLineKind}
use Rattle.fc_row_text.specs.declared.row_lines.RowLineKind.TheVariants.{Blank, Kept, Numbers, Names, Held, Row}
use Rattle.fc_row_text.proofs.ByteLemmas.{NoEnd, NoEnds, above-lower, entry_at-above, lines-ended, no_end-above, no_ends-lines, take-above, without_return-same, word_at-above}

-- entries of rows are words
some-printed : (entry : List ℕ) → AllAbove 32 entry → ArePrinted (some_entry entry)
some-printed [] p = tt
some-printed (b ∷ bytes) p = cond_both (is_none (b ∷ bytes)) [] ((b ∷ bytes) ∷ []) ArePrinted (λ _. tt) (λ _. (p, tt))

printed-append : (xs ys : List (List ℕ)) → ArePrinted xs → ArePrinted ys → ArePrinted (xs ++ ys)
printed-append [] ys p q = q
printed-append (x ∷ xs) ys p q = (p.0, printed-append xs ys p.1 q)

row-printed : (k : ℕ) (told : RowLine) → ArePrinted (row_entry k told)
row-printed k told =
    cond_both (is_row told.kind) (some_entry (entry_at k told)) [] ArePrinted
    (λ _. some-printed (entry_at k told) (entry_at-above k told)) (λ _. tt)

entries-printed : (k : ℕ) (lines : List RowLine) → ArePrinted (entries_of k lines)
entries-printed k [] = tt
entries-printed k (told ∷ lines) =
    printed-append (row_entry k told) (entries_of k lines) (row-printed k told) (entries-printed k lines)

-- a column's line is its entries
entry-is : (entry : List ℕ) → entry_text entry ≡ entries_text (some_entry entry)
entry-is entry =
    elim (is_none entry) as (λ t. cond t [] (32 ∷ entry) ≡ entries_text (cond t [] (entry ∷ [])))
    [ true ↦ refl | false ↦ sym (append-nil (32 ∷ entry)) ]

row-is : (k : ℕ) (told : RowLine) → entry_text_at k told ≡ entries_text (row_entry k told)
row-is k told =
    elim (is_row told.kind) as (λ t. cond t (entry_text (entry_at k told)) [] ≡ entries_text (cond t (some_entry (entry_at k told)) []))
    [ true ↦ entry-is (entry_at k told) | false ↦ refl ]

column-is : (k : ℕ) (lines : List RowLine) → flat_map (entry_text_at k) lines ≡ entries_text (entries_of k lines)
column-is k [] = refl
column-is k (told ∷ lines) =
    ap (λ t. t ++ flat_map (entry_text_at k) lines) (row-is k told) ∙ ap (λ t. entries_text (row_entry k told) ++ t) (column-is k lines)
    ∙ sym (flat_map-append (λ (entry : List ℕ). 32 ∷ entry) (row_entry k told) (entries_of k lines))

-- and has nothing that ends a line
column-above : (k : ℕ) (lines : List RowLine) → AllAbove 31 (line_of_column k lines)
column-above k lines =
    (omega arith, subst (AllAbove 31) (sym (column-is k lines)) (entries-above (entries_of k lines) (entries-printed k lines)))

-- a line is a column's
abbrev of_column : Line → Bool
of_column line = is_column line.kind

-- the tokens of the n-th column line
abbrev tokens_of_column : List Line → ℕ → List (List ℕ)
tokens_of_column lines n = slice_index_or (map (λ line. line.tokens) (filter of_column lines)) n []

-- the line of a column, as the reader reads it
abbrev read_column : ℕ → List RowLine → Line
read_column k lines = record { kind = (line_of (codes ":")).kind; tokens = entries_of k lines }

column-read : (k : ℕ) (lines : List RowLine) → line_of (without_return (line_of_column k lines)) ≡ read_column k lines
column-read k lines =
    let entries = entries_of k lines in
    let colon : line_of (58 ∷ entries_text entries) ≡ record { kind = (line_of (codes ":")).kind; tokens = tokens_of (entries_text entries) } = refl in
    ap line_of (without_return-same (line_of_column k lines) (column-above k lines)) ∙ ap (λ t. line_of (58 ∷ t)) (column-is k lines) ∙ colon
    ∙ ap (λ ts. record { kind = (line_of (codes ":")).kind; tokens = ts }) (tokens_of-entries entries (entries-printed k lines))

columns-read : (lines : List RowLine) (ks : List ℕ)
    → map line_of (map without_return (map (λ k. line_of_column k lines) ks)) ≡ map (λ k. read_column k lines) ks
columns-read lines [] = refl
columns-read lines (k ∷ ks) =
    ap (λ l. l ∷ map line_of (map without_return (map (λ j. line_of_column j lines) ks))) (column-read k lines)
    ∙ ap (λ ls. read_column k lines ∷ ls) (columns-read lines ks)

columns-kept : (lines : List RowLine) (ks : List ℕ)
    → filter of_column (map (λ k. read_column k lines) ks) ≡ map (λ k. read_column k lines) ks
columns-kept lines [] = refl
columns-kept lines (k ∷ ks) = ap (λ ls. read_column k lines ∷ ls) (columns-kept lines ks)

columns-tokens : (lines : List RowLine) (ks : List ℕ)
    → map (λ (line : Line). line.tokens) (map (λ k. read_column k lines) ks) ≡ map (λ k. entries_of k lines) ks
columns-tokens lines [] = refl
columns-tokens lines (k ∷ ks) = ap (λ ts. entries_of k lines ∷ ts) (columns-tokens lines ks)

columns-ends : (lines : List RowLine) (ks : List ℕ) → NoEnds (map (λ k. line_of_column k lines) ks)
columns-ends lines [] = tt
columns-ends lines (k ∷ ks) = (no_end-above (line_of_column k lines) (column-above k lines), columns-ends lines ks)

columns-are : (lines : List RowLine) (ks : List ℕ)
    → flat_map (λ k. with_line_end (line_of_column k lines)) ks ≡ flat_map with_line_end (map (λ k. line_of_column k lines) ks)
columns-are lines [] = refl
columns-are lines (k ∷ ks) = ap (λ t. with_line_end (line_of_column k lines) ++ t) (columns-are lines ks)

-- what stands before the columns are lines that are no columns
record IsFront (line : List ℕ) : Type 0 where
  ends : NoEnd line
  other : is_column (line_of (without_return line)).kind ≡ false

abbrev AreFronts : List (List ℕ) → Type 0
AreFronts [] = Unit {0}
AreFronts (line ∷ lines) = IsFront line × AreFronts lines

fronts-append : (xs ys : List (List ℕ)) → AreFronts xs → AreFronts ys → AreFronts (xs ++ ys)
fronts-append [] ys p q = q
fronts-append (x ∷ xs) ys p q = (p.0, fronts-append xs ys p.1 q)

fronts-ends : (lines : List (List ℕ)) → AreFronts lines → NoEnds lines
fronts-ends [] p = tt
fronts-ends (line ∷ lines) p = (p.0.ends, fronts-ends lines p.1)

fronts-other : (lines : List (List ℕ)) → AreFronts lines → filter of_column (map line_of (map without_return lines)) ≡ []
fronts-other [] p = refl
fronts-other (line ∷ lines) p =
    let rest = filter of_column (map line_of (map without_return lines)) in
    ap (λ t. cond t (line_of (without_return line) ∷ rest) rest) p.0.other ∙ fronts-other lines p.1

-- a line that is kept is no column's
never_kept : (named : Option ℕ) (is_numbers : Bool) → named_or_row named is_numbers ≡ Kept → ⊥
never_kept (Some n) is_numbers e = cc e
never_kept None true e = cc e
never_kept None false e = cc e

below_kept : (is_nothing : Bool) (names : Option ℕ) (own : RowLineKind) → cond is_nothing Blank (held_or names own) ≡ Kept → own ≡ Kept
below_kept true names own e = absurd (cc e)
below_kept false (Some n) own e = absurd (cc e)
below_kept false None own e = e

kept_other : (names : Option ℕ) (line : List ℕ) → kind_below names line ≡ Kept → is_column (line_of (without_return line)).kind ≡ false
kept_other names line e =
    let own = below_kept (length (words_of line) == 0) names (own_kind line) e in
    let named = named_or_row (cells_named (words_of line)) (are_numbers (words_of line)) in
    ⊎_elim
    (λ is. absurd (never_kept (cells_named (words_of line)) (are_numbers (words_of line)) (sym (cond-true _ named Kept is) ∙ own)))
    (λ other. other) (cases_Bool (is_column (line_of (without_return line)).kind))

-- the lines of a drawing's head
home-above : (letter : ℕ) (word : List ℕ) → 32 < letter → AllAbove 32 word → AllAbove 32 (home_entry letter word)
home-above letter word above p =
    cond_both (is_letter_alone 45 word) (letter ∷ codes "-0") (cond (has_suit letter word) (letter ∷ 45 ∷ front_of word) word) (AllAbove 32)
    (λ _. (above, (omega arith, (omega arith, tt))))
    (λ _. cond_both (has_suit letter word) (letter ∷ 45 ∷ front_of word) word (AllAbove 32)
    (λ _. (above, (omega arith, take-above 32 _ word p))) (λ _. p))

held-above : (letter n : ℕ) (line front : List ℕ) → 32 < letter → AllAbove 31 front
    → AllAbove 31 (front ++ (32 ∷ home_entry letter (word_at n line)))
held-above letter n line front above p =
    above-append 31 front (32 ∷ home_entry letter (word_at n line)) p
    (omega arith, above-lower _ (home-above letter (word_at n line) above (word_at-above n line)))

foundations-above : AllAbove 31 (codes "Foundations:")
foundations-above = search rules

homes-above : (n : ℕ) (line : List ℕ) → AllAbove 31 (homes_head n line)
homes-above n line =
    let name = codes "Foundations:" in
    let hearts = name ++ 32 ∷ home_entry 72 (word_at (n + 2) line) in
    let clubs = hearts ++ 32 ∷ home_entry 67 (word_at n line) in
    let diamonds = clubs ++ 32 ∷ home_entry 68 (word_at (n + 1) line) in
    held-above 83 (n + 3) line diamonds (omega arith) (held-above 68 (n + 1) line clubs (omega arith)
    (held-above 67 n line hearts (omega arith) (held-above 72 (n + 2) line name (omega arith) foundations-above)))

freecells-above : AllAbove 31 (codes "Freecells:")
freecells-above = search rules

held_cells-above : (line : List ℕ) (is : List ℕ) → AllAbove 31 (flat_map (λ i. 32 ∷ word_at i line) is)
held_cells-above line [] = tt
held_cells-above line (i ∷ is) =
    (omega arith, above-append 31 (word_at i line) _ (above-lower _ (word_at-above i line)) (held_cells-above line is))

cells-above : (n : ℕ) (line : List ℕ) → AllAbove 31 (cells_head n line)
cells-above n line =
    above-append 31 (codes "Freecells:") _ freecells-above (held_cells-above line (range_with_len 0 n))

homes-front : (n : ℕ) (line : List ℕ) → IsFront (homes_head n line)
homes-front n line = record {
  ends = no_end-above (homes_head n line) (homes-above n line);
  other = ap (λ l. is_column (line_of l).kind) (without_return-same (homes_head n line) (homes-above n line));
}

cells-front : (n : ℕ) (line : List ℕ) → IsFront (cells_head n line)
cells-front n line = record {
  ends = no_end-above (cells_head n line) (cells-above n line);
  other = ap (λ l. is_column (line_of l).kind) (without_return-same (cells_head n line) (cells-above n line));
}

-- what a line says before the columns, as lines
abbrev front_lines : RowLineKind → List ℕ → List (List ℕ)
front_lines Blank line = []
front_lines Kept line = line ∷ []
front_lines Numbers line = []
front_lines (Names n) line = []
front_lines (Held n) line = homes_head n line ∷ cells_head n line ∷ []
front_lines Row line = []

abbrev told_front : RowLine → List (List ℕ)
told_front told = front_lines told.kind told.line

front-is : (kind : RowLineKind) (line : List ℕ) (reading : Reading)
    → front_text (record { kind = kind; line = line; reading = reading }) ≡ flat_map with_line_end (front_lines kind line)
front-is Blank line reading = refl
front-is Kept line reading = sym (append-nil (with_line_end line))
front-is Numbers line reading = refl
front-is (Names n) line reading = refl
front-is (Held n) line reading = ap (λ t. with_line_end (homes_head n line) ++ t) (sym (append-nil (with_line_end (cells_head n line))))
front-is Row line reading = refl

fronts-are : (lines : List RowLine) → flat_map front_text lines ≡ flat_map with_line_end (flat_map told_front lines)
fronts-are [] = refl
fronts-are (told ∷ lines) =
    ap (λ t. t ++ flat_map front_text lines) (front-is told.kind told.line told.reading) ∙ ap (λ t. flat_map with_line_end (told_front told) ++ t) (fronts-are lines)
    ∙ sym (flat_map-append with_line_end (told_front told) (flat_map told_front lines))

front-each : (kind : RowLineKind) (line : List ℕ) → NoEnd line
    → (kind ≡ Kept → is_column (line_of (without_return line)).kind ≡ false) → AreFronts (front_lines kind line)
front-each Blank line none other = tt
front-each Kept line none other = (record { ends = none; other = other refl }, tt)
front-each Numbers line none other = tt
front-each (Names n) line none other = tt
front-each (Held n) line none other = (homes-front n line, (cells-front n line, tt))
front-each Row line none other = tt

fronts-each : (names : Option ℕ) (head above : List (Option Span)) (lines : List (List ℕ)) → NoEnds lines
    → AreFronts (flat_map told_front (row_lines_below names head above lines))
fronts-each names head above [] none = tt
fronts-each names head above (line ∷ lines) none =
    let told = row_line_below names head above line in
    let below = row_lines_below (names_below names told.kind) (head_below told.kind head line) (places_with told.reading.entries above) lines in
    fronts-append (front_lines told.kind line) (flat_map told_front below) (front-each told.kind line none.0 (kept_other names line))
    (fronts-each (names_below names told.kind) (head_below told.kind head line) (places_with told.reading.entries above) lines none.1)

-- the column lines of the text in columns
ends-append : (xs ys : List (List ℕ)) → NoEnds xs → NoEnds ys → NoEnds (xs ++ ys)
ends-append [] ys p q = q
ends-append (x ∷ xs) ys p q = (p.0, ends-append xs ys p.1 q)

filter-front : (xs ys : List Line) → filter of_column xs ≡ [] → filter of_column (xs ++ ys) ≡ filter of_column ys
filter-front [] ys none = refl
filter-front (x ∷ xs) ys none =
    elim (of_column x) as (λ t. cond t (x ∷ filter of_column xs) (filter of_column xs) ≡ []
    → cond t (x ∷ filter of_column (xs ++ ys)) (filter of_column (xs ++ ys)) ≡ filter of_column ys)
    [ true ↦ λ e. absurd (cc e) | false ↦ λ e. filter-front xs ys e ] none

module _ (fronts : List (List ℕ)) (lines : List RowLine) (ks : List ℕ) (are : AreFronts fronts) where
  all_lines : lines_of (flat_map with_line_end fronts ++ flat_map (λ k. with_line_end (line_of_column k lines)) ks)
      ≡ map without_return fronts ++ map without_return (map (λ k. line_of_column k lines) ks)
  all_lines =
      let columns = map (λ k. line_of_column k lines) ks in
      ap lines_of (ap (λ t. flat_map with_line_end fronts ++ t) (columns-are lines ks) ∙ sym (flat_map-append with_line_end fronts columns))
      ∙ ap (map without_return) (lines-ended (fronts ++ columns) (ends-append fronts columns (fronts-ends fronts are) (columns-ends lines ks)))
      ∙ map-append without_return fronts columns

  column_lines : filter of_column (map line_of (lines_of (flat_map with_line_end fronts ++ flat_map (λ k. with_line_end (line_of_column k lines)) ks)))
      ≡ map (λ k. read_column k lines) ks
  column_lines =
      let columns = map without_return (map (λ k. line_of_column k lines) ks) in
      ap (λ ls. filter of_column (map line_of ls)) all_lines
      ∙ ap (filter of_column) (map-append line_of (map without_return fronts) columns)
      ∙ filter-front (map line_of (map without_return fronts)) (map line_of columns) (fronts-other fronts are)
      ∙ ap (filter of_column) (columns-read lines ks) ∙ columns-kept lines ks

  column_tokens : map (λ (line : Line). line.tokens)
      (filter of_column (map line_of (lines_of (flat_map with_line_end fronts ++ flat_map (λ k. with_line_end (line_of_column k lines)) ks))))
      ≡ map (λ k. entries_of k lines) ks
  column_tokens = ap (map (λ (line : Line). line.tokens)) column_lines ∙ columns-tokens lines ks

tokens-read : (lines : List RowLine) (fronts : List (List ℕ)) (front : List ℕ) (most k : ℕ) → front ≡ flat_map with_line_end fronts → AreFronts fronts
    → k < most → tokens_of_column (board_lines (front ++ columns_text lines most)) k ≡ entries_of k lines
unfolding columns_text
tokens-read lines fronts front most k is are below =
    let columns = flat_map (λ j. with_line_end (line_of_column j lines)) (range_with_len 0 most) in
    ap (λ t. tokens_of_column (board_lines (t ++ columns)) k) is
    ∙ ap (λ ts. slice_index_or ts k []) (column_tokens fronts lines (range_with_len 0 most) are)
    ∙ get_or-map-range_with_len (λ j. entries_of j lines) 0 most k k [] below (omega arith)

text-read : (text : List ℕ) (k : ℕ) → k < 8 → tokens_of_column (board_lines (text_in_columns text)) k ≡ entries_of k (row_lines text)
unfolding text_in_columns
text-read text k below =
    tokens-read (row_lines text) (flat_map told_front (row_lines text)) (flat_map front_text (row_lines text)) 8 k
    (fronts-are (row_lines text)) (fronts-each None no_places no_places (lines_of text) (no_ends-lines text)) below

-- where the text in columns spells a position, the entries of the rows for a column spell its cards
pub entries_read : EntriesAreColumns
entries_read cells text b k spells below =
    subst (λ ts. AllZip SpellsCard ts (column b k)) (text-read text k below) (spells.spelled.columns k below)
