-- What a line tells by itself, and what the look for the first fault keeps.
use Rattle.std.proofs.Common.{◌≡◌, ℕ, ◌+◌, ◌-◌, ◌<◌, ◌≤◌, Bool, true, false, cond, Option, Some, None, List, [], ◌∷◌, length, refl, sym, ◌∙◌, ap, arith}
use Rattle.std.proofs.lemmas.List.{length-map}
use Rattle.std.specs.Prelude.{codes, is_some}
use Rattle.std.specs.List.{range_with_len}
use Rattle.std.specs.Option.{option_or}
use Rattle.std.proofs.lemmas.Bool.{cond-false, cond-true, le-ltb, lt-ltb}
use Rattle.fc_text.specs.Line.{is_line_end, line_of, lines_of, parts_of, without_return}
use Rattle.fc_text.specs.Spelling.{is_column}
use Rattle.fc_text.proofs.PartLemmas.{length-parts_of}
use Rattle.fc_row_text.specs.RowText.{RowLine, are_letters, are_numbers, cells_named, LeftOut, head_below, text_in_columns, fault_of, first_fault, left_above, left_at, left_below, length_fault, most_bytes, named_or_row, names_below, no_places, none_left, own_kind, row_line_below, row_text_fault, row_lines_below, row_lines, words_of}
use Rattle.fc_row_text.specs.Places.{places_with}
use Rattle.fc_row_text.specs.declared.spans.Span.{Span}
use Rattle.fc_row_text.proofs.PushLemmas.{range_next, range_none}
use Rattle.fc_row_text.specs.declared.faults.RowTextFault.{RowTextFault}
use Rattle.fc_row_text.specs.declared.faults.RowTextFault.TheVariants.{TooLong}
use Rattle.fc_row_text.specs.declared.row_lines.RowLineKind.TheVariants.{Kept, Numbers, Row}

-- a line that isn't kept and has no names is the numbers of the columns, or a row
own_unnamed : (line : List ℕ) (is_numbers : Bool) → is_column (line_of (without_return line)).kind ≡ true
    → cells_named (words_of line) ≡ None → are_letters (words_of line) (codes "12345678") ≡ is_numbers
    → own_kind line ≡ cond is_numbers Numbers Row
unfolding are_numbers
own_unnamed line is_numbers column none is =
    cond-true _ (named_or_row (cells_named (words_of line)) (are_numbers (words_of line))) Kept column
    ∙ ap (λ n. named_or_row n (are_numbers (words_of line))) none ∙ ap (λ t. cond t Numbers Row) is

pub own_numbers : (line : List ℕ) → is_column (line_of (without_return line)).kind ≡ true → cells_named (words_of line) ≡ None
    → are_letters (words_of line) (codes "12345678") ≡ true → Numbers ≡ own_kind line
own_numbers line column none is = sym (own_unnamed line true column none is)

pub own_row : (line : List ℕ) → is_column (line_of (without_return line)).kind ≡ true → cells_named (words_of line) ≡ None
    → are_letters (words_of line) (codes "12345678") ≡ false → Row ≡ own_kind line
own_row line column none is = sym (own_unnamed line false column none is)

-- there are no more lines than bytes
length-told : (names : Option ℕ) (head above : List (Option Span)) (lines : List (List ℕ))
    → length (row_lines_below names head above lines) ≡ length lines
length-told names head above [] = refl
length-told names head above (line ∷ lines) =
    let told = row_line_below names head above line in
    let more = length-told (names_below names told.kind) (head_below told.kind head line) (places_with told.reading.entries above) lines in
    omega (arith, more)

pub told_few : (text : List ℕ) → length (row_lines text) ≤ length text
told_few text =
    omega (arith, length-told None no_places no_places (lines_of text), length-map (parts_of is_line_end text) without_return, length-parts_of is_line_end text)

-- a line without a fault
pub fault_next : (whole : Option RowTextFault) (next left : LeftOut) (number : ℕ) (lines others : List RowLine) (told : RowLine) → lines ≡ told ∷ others
    → fault_of left number told ≡ None → next ≡ left_below left number told → first_fault left number lines ≡ whole
    → first_fault next (number + 1) others ≡ whole
fault_next whole next left number lines others told steps sound below so =
    ap (λ s. first_fault s (number + 1) others) below
    ∙ sym (ap (first_fault left number) steps ∙ ap (λ f. option_or f (first_fault (left_below left number told) (number + 1) others)) sound)
    ∙ so

-- a line with a fault
pub fault_here : (whole : Option RowTextFault) (left : LeftOut) (number : ℕ) (lines others : List RowLine) (told : RowLine) (fault : RowTextFault)
    → lines ≡ told ∷ others → fault_of left number told ≡ Some fault → first_fault left number lines ≡ whole → whole ≡ Some fault
fault_here whole left number lines others told fault steps is so =
    sym so ∙ ap (first_fault left number) steps
    ∙ ap (λ f. option_or f (first_fault (left_below left number told) (number + 1) others)) is

-- no line is left
pub fault_none : (whole : Option RowTextFault) (left : LeftOut) (number : ℕ) (lines : List RowLine) → lines ≡ []
    → first_fault left number lines ≡ whole → whole ≡ None
fault_none whole left number lines none so = sym so ∙ ap (first_fault left number) none

-- what is wrong with a text, by its parts
short_text : (text : List ℕ) → length text ≤ most_bytes → length_fault text ≡ None
short_text text short = cond-false _ (Some TooLong) None (le-ltb most_bytes (length text) short)

long_text : (text : List ℕ) → most_bytes < length text → length_fault text ≡ Some TooLong
long_text text long = cond-true _ (Some TooLong) None (lt-ltb most_bytes (length text) long)

pub rows_sound : (text : List ℕ) → length text ≤ most_bytes → first_fault none_left 1 (row_lines text) ≡ None
    → length (text_in_columns text) ≤ most_bytes → row_text_fault text ≡ None
rows_sound text short sound fits =
    ap (λ f. option_or f (option_or (first_fault none_left 1 (row_lines text)) (length_fault (text_in_columns text)))) (short_text text short)
    ∙ ap (λ f. option_or f (length_fault (text_in_columns text))) sound ∙ short_text (text_in_columns text) fits

pub rows_full : (text : List ℕ) (fault : RowTextFault) → length text ≤ most_bytes → first_fault none_left 1 (row_lines text) ≡ None
    → (fault ≡ TooLong) × (most_bytes < length (text_in_columns text)) → row_text_fault text ≡ Some fault
rows_full text fault short sound full =
    ap (λ f. option_or f (option_or (first_fault none_left 1 (row_lines text)) (length_fault (text_in_columns text)))) (short_text text short)
    ∙ ap (λ f. option_or f (length_fault (text_in_columns text))) sound ∙ long_text (text_in_columns text) full.1 ∙ ap (λ f. Some f) (sym full.0)

-- of so many columns those from this one on are left
none_there : (o : Option ℕ) → is_some o ≡ false → o ≡ None
none_there None is = refl
none_there (Some row) is = absurd (cc is)

pub above_next : (left : LeftOut) (told : RowLine) (k most : ℕ) (o whole : Option ℕ) → k < most → o ≡ left_at left told k → is_some o ≡ false
    → left_above left told (range_with_len k (most - k)) ≡ whole → left_above left told (range_with_len (k + 1) (most - (k + 1))) ≡ whole
above_next left told k most o whole below at none so =
    let rest = left_above left told (range_with_len (k + 1) (most - (k + 1))) in
    sym (ap (left_above left told) (range_next k most below) ∙ ap (λ r. option_or r rest) (sym at ∙ none_there o none)) ∙ so

pub above_none : (left : LeftOut) (told : RowLine) (k most : ℕ) (whole : Option ℕ) → most ≤ k
    → left_above left told (range_with_len k (most - k)) ≡ whole → None ≡ whole
above_none left told k most whole past so = sym (ap (left_above left told) (range_none k most past)) ∙ so
