-- A board in rows, as a screen shows it, and the text in columns that it stands for.
use Rattle.std.specs.Prelude.{ℕ, zero, suc, ◌+◌, ◌-◌, ◌*◌, ◌==◌, ◌||◌, ◌&&◌, Bool, true, false, not, cond, List, [], ◌∷◌, ◌++◌, length, take, drop, Option, Some, None, codes, nat_lt, slice_index, slice_index_or, get_or}
use Rattle.std.specs.Char.{to_ascii_uppercase}
use Rattle.std.specs.List.{flat_map, range_with_len}
use Rattle.std.specs.Option.{option_or}
use Rattle.fc_cards.specs.Texts.{with_line_end}
use Rattle.fc_position.specs.Board.{front_of}
use Rattle.fc_text.specs.Line.{line_of, lines_of, tokens_between, without_return}
use Rattle.fc_text.specs.Spelling.{is_column}
use Rattle.fc_row_text.specs.declared.faults.RowTextFault.{RowTextFault}
use Rattle.fc_row_text.specs.declared.faults.RowTextFault.TheVariants.{TooLong, BadHead, OpenRow, LongRow, ShortRow}
use Rattle.fc_row_text.specs.declared.readings.Reading.{Reading}
use Rattle.fc_row_text.specs.declared.row_lines.RowLineKind.{RowLineKind}
use Rattle.fc_row_text.specs.declared.row_lines.RowLineKind.TheVariants.{Blank, Kept, Numbers, Names, Held, Row}
use Rattle.fc_row_text.specs.declared.spans.Span.{Span}
use Rattle.fc_row_text.specs.Places.{are_apart, for_columns, is_row_gap, places_with, read_so, reading_of, words_from_first, words_in}

-- the words of a text: what stands between gaps
abbrev pub words_of : List ℕ → List (List ℕ)
words_of text = tokens_between is_row_gap text

-- the word is this letter alone
abbrev pub is_letter_alone : ℕ → List ℕ → Bool
is_letter_alone b [] = false
is_letter_alone b (x ∷ []) = x == b
is_letter_alone b (x ∷ y ∷ bytes) = false

-- the words are these letters, one each
abbrev pub are_letters : List (List ℕ) → List ℕ → Bool
are_letters [] [] = true
are_letters [] (b ∷ letters) = false
are_letters (word ∷ words) [] = false
are_letters (word ∷ words) (b ∷ letters) = is_letter_alone b word && are_letters words letters

-- the words are the numbers of the columns
unfoldable pub are_numbers : List (List ℕ) → Bool
are_numbers words = are_letters words (codes "12345678")

-- how many cells the words name, if they are the names above a drawing: those of none to four cells, and of the foundations
unfoldable pub cells_named : List (List ℕ) → Option ℕ
cells_named words = cond (are_letters words (codes "CDHS")) (Some 0)
    (cond (are_letters words (codes "aCDHS")) (Some 1)
    (cond (are_letters words (codes "abCDHS")) (Some 2)
    (cond (are_letters words (codes "abcCDHS")) (Some 3)
    (cond (are_letters words (codes "abcdCDHS")) (Some 4) None))))

-- a line without such names is the numbers of the columns or a row
abbrev pub named_or_row : Option ℕ → Bool → RowLineKind
named_or_row (Some n) is_numbers = Names n
named_or_row None is_numbers = cond is_numbers Numbers Row

-- what a line tells by itself; one that the reader sorts as foundations or cells is kept
abbrev pub own_kind : List ℕ → RowLineKind
own_kind line = cond (is_column (line_of (without_return line)).kind)
    (named_or_row (cells_named (words_of line)) (are_numbers (words_of line)))
    Kept

-- below the names of n cells and the foundations, a line tells what these hold
abbrev pub held_or : Option ℕ → RowLineKind → RowLineKind
held_or (Some n) own = Held n
held_or None own = own

-- what a line tells below these names, if names stand above it; one without words tells nothing
abbrev pub kind_below : Option ℕ → List ℕ → RowLineKind
kind_below names line = cond (length (words_of line) == 0) Blank (held_or names (own_kind line))

-- the names that stand above the next line
abbrev pub names_below : Option ℕ → RowLineKind → Option ℕ
names_below names Blank = names
names_below names Kept = None
names_below names Numbers = None
names_below names (Names n) = Some n
names_below names (Held n) = None
names_below names Row = None

-- the line is a row
abbrev pub is_row : RowLineKind → Bool
is_row Blank = false
is_row Kept = false
is_row Numbers = false
is_row (Names n) = false
is_row (Held n) = false
is_row Row = true

-- the line is the numbers of the columns
abbrev pub is_head : RowLineKind → Bool
is_head Blank = false
is_head Kept = false
is_head Numbers = true
is_head (Names n) = false
is_head (Held n) = false
is_head Row = false

-- a line, what it tells, and how it is read where it is a row
pub record RowLine : Type 0 where
  pub kind : RowLineKind
  pub line : List ℕ
  pub reading : Reading

-- nothing stands in a column
abbrev pub no_places : List (Option Span)
no_places = for_columns (λ k. None)

-- how a line is read below these places of the columns' numbers and of entries
abbrev pub line_reading : RowLineKind → List (Option Span) → List (Option Span) → List ℕ → Reading
line_reading kind head above line = cond (is_row kind) (reading_of head above (words_in line)) (read_so no_places true)

-- where the numbers of the columns stand for the lines below: they are apart, else they say nothing
abbrev pub head_below : RowLineKind → List (Option Span) → List ℕ → List (Option Span)
head_below kind head line = cond (is_head kind && are_apart (words_in line)) (words_from_first (words_in line)) head

-- a line below these names, numbers and entries, if they stand above it
abbrev pub row_line_below : Option ℕ → List (Option Span) → List (Option Span) → List ℕ → RowLine
row_line_below names head above line = record {
  kind = kind_below names line;
  line = line;
  reading = line_reading (kind_below names line) head above line;
}

-- the lines below these names, numbers and entries, and what they tell
abbrev pub row_lines_below : Option ℕ → List (Option Span) → List (Option Span) → List (List ℕ) → List RowLine
row_lines_below names head above [] = []
row_lines_below names head above (line ∷ lines) =
    let told = row_line_below names head above line in
    told ∷ row_lines_below (names_below names told.kind) (head_below told.kind head line) (places_with told.reading.entries above) lines

-- a text as its lines and what they tell
abbrev pub row_lines : List ℕ → List RowLine
row_lines text = row_lines_below None no_places no_places (lines_of text)

-- the k-th word of a text, from 0; past the last one nothing
abbrev pub word_at : ℕ → List ℕ → List ℕ
word_at k text = slice_index_or (words_of text) k []

-- the entry of a row for column k
abbrev pub entry_of : Option Span → List ℕ → List ℕ
entry_of None line = []
entry_of (Some word) line = word_at (word.number - 1) line

abbrev pub entry_at : ℕ → RowLine → List ℕ
entry_at k told = entry_of (get_or told.reading.entries k None) told.line

-- an entry that stands for no card: none at all, `-`, `.` or `--`
abbrev pub is_none : List ℕ → Bool
is_none [] = true
is_none (a ∷ []) = (a == 45) || (a == 46)
is_none (a ∷ b ∷ []) = (a == 45) && (b == 45)
is_none (a ∷ b ∷ c ∷ bytes) = false

-- an entry with a blank before it, where it is one
abbrev pub entry_text : List ℕ → List ℕ
entry_text entry = cond (is_none entry) [] (32 ∷ entry)

-- what a line says of column k
abbrev pub entry_text_at : ℕ → RowLine → List ℕ
entry_text_at k told = cond (is_row told.kind) (entry_text (entry_at k told)) []

-- column k: a colon, and its entries, the deepest first
abbrev pub line_of_column : ℕ → List RowLine → List ℕ
line_of_column k lines = 58 ∷ flat_map (entry_text_at k) lines

-- the word ends with the letter of the suit, in either case
abbrev pub has_suit : ℕ → List ℕ → Bool
has_suit letter word = nat_lt 0 (length word) && (to_ascii_uppercase (slice_index word (length word - 1)) == letter)

-- how many cards of a suit are home, from what its foundation holds: none for `-`, the rank of a card of the suit; anything
-- else is handed on
abbrev pub home_entry : ℕ → List ℕ → List ℕ
home_entry letter word = cond (is_letter_alone 45 word) (letter ∷ codes "-0")
    (cond (has_suit letter word) (letter ∷ 45 ∷ front_of word) word)

-- the foundations of a drawing with n cells, from what a line says that these and those hold, in the order in which boards
-- are printed
abbrev pub homes_head : ℕ → List ℕ → List ℕ
homes_head n line = codes "Foundations:" ++ (32 ∷ home_entry 72 (word_at (n + 2) line)) ++ (32 ∷ home_entry 67 (word_at n line))
    ++ (32 ∷ home_entry 68 (word_at (n + 1) line)) ++ (32 ∷ home_entry 83 (word_at (n + 3) line))

-- its cells
abbrev pub cells_head : ℕ → List ℕ → List ℕ
cells_head n line = codes "Freecells:" ++ flat_map (λ i. 32 ∷ word_at i line) (range_with_len 0 n)

-- its foundations and its cells
abbrev pub head_text : ℕ → List ℕ → List ℕ
head_text n line = with_line_end (homes_head n line) ++ with_line_end (cells_head n line)

-- what stands before the columns: the lines that are kept, and what cells and foundations hold
abbrev pub front_text : RowLine → List ℕ
front_text told = elim told.kind as (λ _. List ℕ) [
  | Blank ↦ []
  | Kept ↦ with_line_end told.line
  | Numbers ↦ []
  | Names n ↦ []
  | Held n ↦ head_text n told.line
  | Row ↦ []
]

-- the lines of the first columns
unfoldable pub columns_text : List RowLine → ℕ → List ℕ
columns_text lines count = flat_map (λ k. with_line_end (line_of_column k lines)) (range_with_len 0 count)

-- the text in columns that a text in rows stands for
unfoldable pub text_in_columns : List ℕ → List ℕ
text_in_columns text = flat_map front_text (row_lines text) ++ columns_text (row_lines text) 8

-- the rows that leave a column out are told by the number of the first one, for each column
abbrev pub LeftOut : Type 0
LeftOut = List (Option ℕ)

-- no row leaves a column out
abbrev pub none_left : LeftOut
none_left = for_columns (λ k. None)

-- a row with this number leaves a column without a word out
abbrev pub left_by : ℕ → Option Span → Option ℕ
left_by number None = Some number
left_by number (Some word) = None

-- the first rows that leave columns out, below a row with this number
abbrev pub left_with : LeftOut → ℕ → List (Option Span) → LeftOut
left_with left number entries = for_columns (λ k. option_or (get_or left k None) (left_by number (get_or entries k None)))

abbrev pub left_below : LeftOut → ℕ → RowLine → LeftOut
left_below left number told = cond (is_row told.kind) (left_with left number told.reading.entries) left

-- the first row above that leaves a column out, where a row has a card in it
abbrev pub left_at : LeftOut → RowLine → ℕ → Option ℕ
left_at left told k = cond (is_none (entry_at k told)) None (get_or left k None)

-- that of the first of these columns for which there is one
abbrev pub left_above : LeftOut → RowLine → List ℕ → Option ℕ
left_above left told [] = None
left_above left told (k ∷ columns) = option_or (left_at left told k) (left_above left told columns)

-- the row has more words than there are columns
abbrev pub long_fault : ℕ → List ℕ → Option RowTextFault
long_fault number line = cond (nat_lt 8 (length (words_of line))) (Some (LongRow number)) None

-- that row is short
abbrev pub short_fault : Option ℕ → Option RowTextFault
short_fault None = None
short_fault (Some above) = Some (ShortRow above)

-- a gap leaves open which columns a row's entries are those of
abbrev pub gap_fault : ℕ → Option ℕ → Option RowTextFault
gap_fault number None = None
gap_fault number (Some entry) = Some (OpenRow number entry)

-- what is wrong with a row: a gap, else a row above that leaves out a column where it has a card, else its length
abbrev pub row_fault : LeftOut → ℕ → RowLine → Option RowTextFault
row_fault left number told = option_or (gap_fault number told.reading.gap)
    (option_or (short_fault (left_above left told (range_with_len 0 8))) (long_fault number told.line))

-- what is wrong with a line with this number, below rows that leave columns out
abbrev pub fault_of : LeftOut → ℕ → RowLine → Option RowTextFault
fault_of left number told = elim told.kind as (λ _. Option RowTextFault) [
  | Blank ↦ None
  | Kept ↦ None
  | Numbers ↦ None
  | Names n ↦ None
  | Held n ↦ cond (length (words_of told.line) == n + 4) None (Some (BadHead number))
  | Row ↦ row_fault left number told
]

-- the first fault of lines, the first of which has this number
abbrev pub first_fault : LeftOut → ℕ → List RowLine → Option RowTextFault
first_fault left number [] = None
first_fault left number (told ∷ lines) =
    option_or (fault_of left number told) (first_fault (left_below left number told) (number + 1) lines)

-- texts have at most so many bytes
abbrev pub most_bytes : ℕ
most_bytes = 16384

-- what is wrong with a text that has more
abbrev pub length_fault : List ℕ → Option RowTextFault
length_fault text = cond (nat_lt most_bytes (length text)) (Some TooLong) None

-- what is wrong with a text in rows: it is too long, else the first fault of its lines, else the text in columns is too long
abbrev pub row_text_fault : List ℕ → Option RowTextFault
row_text_fault text = option_or (length_fault text)
    (option_or (first_fault none_left 1 (row_lines text)) (length_fault (text_in_columns text)))
