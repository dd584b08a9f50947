-- Where the words of a line stand, and for which columns the words of a row stand.
use Rattle.std.specs.Prelude.{◌≡◌, ℕ, ◌+◌, ◌*◌, ◌/◌, ◌-◌, ◌==◌, ◌&&◌, ◌||◌, Bool, true, false, not, cond, Option, Some, None, List, [], ◌∷◌, ◌++◌, length, nat_lt, slice_get, get_or, map, min}
use Rattle.std.specs.List.{range_with_len, list_any}
use Rattle.std.specs.Option.{option_or}
use Rattle.fc_row_text.specs.declared.readings.Reading.{Reading}
use Rattle.fc_row_text.specs.declared.spans.Span.{Span}

-- what parts entries: spaces, tabs and all other control bytes
abbrev pub is_row_gap : ℕ → Bool
is_row_gap b = nat_lt b 33

-- the last place that is told apart
abbrev pub last_place : ℕ
last_place = 65536

-- the place behind a byte at this place: a tab goes to the next multiple of 8
abbrev pub place_behind : ℕ → ℕ → ℕ
place_behind place b = cond (b == 9) (8 * (min place last_place / 8 + 1)) (min place last_place + 1)

-- the room between words: a tab is worth two blanks, and five are as good as more
abbrev pub room_behind : ℕ → ℕ → ℕ
room_behind room b = min room 4 + cond (b == 9) 2 1

-- a line that was read so far: the place of the next byte, the room before the word, where a word began that goes on, and its
-- words, the first eight of them
pub record LineSoFar : Type 0 where
  pub place : ℕ
  pub room : ℕ
  pub start : Option ℕ
  pub words : List Span

-- before a line
abbrev pub line_start : LineSoFar
line_start = record { place = 0; room = 0; start = None; words = [] }

-- one more word, up to the eighth
abbrev pub words_with : List Span → Span → List Span
words_with words word = cond (nat_lt (length words) 8) (words ++ word ∷ []) words

-- the word that goes on ends here
abbrev pub word_ended : Option ℕ → LineSoFar → LineSoFar
word_ended None s = s
word_ended (Some from) s = record {
  place = s.place;
  room = 0;
  start = None;
  words = words_with s.words (record { number = length s.words + 1; room = s.room; from = from; to = s.place });
}

abbrev pub scan_gap : ℕ → LineSoFar → LineSoFar
scan_gap b s = record { place = place_behind s.place b; room = room_behind s.room b; start = s.start; words = s.words }

abbrev pub start_of : Option ℕ → ℕ → ℕ
start_of None place = place
start_of (Some from) place = from

abbrev pub scan_letter : ℕ → LineSoFar → LineSoFar
scan_letter b s = record { place = place_behind s.place b; room = s.room; start = Some (start_of s.start s.place); words = s.words }

-- one more byte: a gap ends the word before it, any other begins one or goes on with it
unfoldable pub scan : LineSoFar → ℕ → LineSoFar
scan s b = cond (is_row_gap b) (scan_gap b (word_ended s.start s)) (scan_letter b s)

unfoldable pub scan_all : LineSoFar → List ℕ → LineSoFar
scan_all s [] = s
scan_all s (b ∷ bytes) = scan_all (scan s b) bytes

-- the first eight words of a line, where they stand
abbrev pub words_in : List ℕ → List Span
words_in line = let end = scan_all line_start line in (word_ended end.start end).words

-- a word shares a place with another one, or with a column's
abbrev pub shares_place : Span → Span → Bool
shares_place a b = nat_lt b.from a.to && nat_lt a.from b.to

-- the first of these words that stands under a word of a line above
abbrev pub first_under : Span → List Span → Option Span
first_under above [] = None
first_under above (word ∷ words) = cond (shares_place above word) (Some word) (first_under above words)

-- the first one that stands under a column, where it has a place
abbrev pub word_under : Option Span → List Span → Option Span
word_under None words = None
word_under (Some above) words = first_under above words

-- for each column something
abbrev pub for_columns : {A : Type 0} → (ℕ → A) → List A
for_columns f = map f (range_with_len 0 8)

-- the word of each column, where the columns have these places
abbrev pub words_under : List (Option Span) → List Span → List (Option Span)
words_under places words = for_columns (λ k. word_under (get_or places k None) words)

-- the words of the columns are those from this number on of so many, in their order
abbrev pub run_on : ℕ → ℕ → List (Option Span) → Bool
run_on number count [] = number == count + 1
run_on number count (None ∷ entries) = run_on number count entries
run_on number count (Some word ∷ entries) = (word.number == number) && run_on (number + 1) count entries

-- a row is read by these places: each of its words stands under a column, and no two are one column's or in another order
abbrev pub are_under : List (Option Span) → List Span → Bool
are_under places words = run_on 1 (length words) (words_under places words)

-- the words as those of the first columns
abbrev pub words_from_first : List Span → List (Option Span)
words_from_first words = for_columns (λ k. slice_get words k)

-- where the entries of columns stand, or those above them
abbrev pub places_with : List (Option Span) → List (Option Span) → List (Option Span)
places_with entries above = for_columns (λ k. option_or (get_or entries k None) (get_or above k None))

-- the number of the first word with room for another one before it
abbrev pub word_behind_room : List Span → Option ℕ
word_behind_room [] = None
word_behind_room (word ∷ words) = cond (nat_lt 3 word.room) (Some word.number) (word_behind_room words)

-- the first word of a row doesn't stand where column 1 does, or has room before it where that has no place
abbrev pub is_off_first : Option Span → Span → Bool
is_off_first None word = nat_lt 3 word.room
is_off_first (Some above) word = not (shares_place above word)

-- the number of the first word behind a gap, where column 1 has this place
abbrev pub word_behind_gap : Option Span → List Span → Option ℕ
word_behind_gap first [] = None
word_behind_gap first (word ∷ words) = cond (is_off_first first word) (Some word.number) (word_behind_room words)

-- the numbers of the columns stand so far apart that cards have room below them
abbrev pub are_apart : List Span → Bool
are_apart [] = true
are_apart (a ∷ []) = true
are_apart (a ∷ b ∷ words) = nat_lt 2 (b.from - a.from) && are_apart (b ∷ words)

-- a word takes more than two places, as 10 with a suit does
abbrev pub is_wide : Span → Bool
is_wide word = nat_lt 2 (word.to - word.from)

-- a row that is read so
abbrev pub read_so : List (Option Span) → Bool → Reading
read_so entries is_sure = record { entries = entries; gap = None; is_sure = is_sure }

-- how a row is read that has no gap, or a gap before this word: under these entries, or else the gap leaves open what it means
abbrev pub read_behind : Option ℕ → List (Option Span) → List Span → Reading
read_behind None above words = read_so (words_from_first words) false
read_behind (Some word) above words = cond (are_under above words) (read_so (words_under above words) false)
    (record { entries = words_from_first words; gap = Some word; is_sure = false })

-- a row is read under the numbers of the columns; else eight words are those of the columns, and fewer are those from the first
-- column on, where no gap is between them, or else are read under the entries above
unfoldable pub reading_of : List (Option Span) → List (Option Span) → List Span → Reading
reading_of head above words = cond (are_under head words) (read_so (words_under head words) (not (list_any is_wide words)))
    (cond (length words == 8) (read_so (words_from_first words) true)
    (read_behind (word_behind_gap (option_or (get_or above 0 None) (get_or head 0 None)) words) above words))
