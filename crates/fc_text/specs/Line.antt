-- Board texts as lines, and lines as their kind and their tokens.
use Rattle.std.specs.Prelude.{ℕ, ◌==◌, ◌-◌, ◌||◌, Bool, true, false, not, cond, List, [], ◌∷◌, length, take, drop, map, filter, Option, Some, None, slice_index, codes}
use Rattle.std.specs.Char.{to_ascii_lowercase}
use Rattle.std.specs.List.{position_or_len}
use Rattle.std.specs.Str.{bytes_eq}
use Rattle.fc_position.specs.Board.{front_of}
use Rattle.fc_text.specs.declared.lines.LineKind.{LineKind}
use Rattle.fc_text.specs.declared.lines.LineKind.TheVariants.{Foundations, Freecells, Column}

-- a byte and the parts behind it, the first of which it begins
abbrev pub begin_part : ℕ → List (List ℕ) → List (List ℕ)
begin_part b [] = (b ∷ []) ∷ []
begin_part b (part ∷ parts) = (b ∷ part) ∷ parts

-- the parts of a text that the ends end; what follows the last end is a part only if it isn't empty
abbrev pub parts_of : (ℕ → Bool) → List ℕ → List (List ℕ)
parts_of is_end [] = []
parts_of is_end (b ∷ bytes) = cond (is_end b) ([] ∷ parts_of is_end bytes) (begin_part b (parts_of is_end bytes))

-- lines are ended by LF
abbrev pub is_line_end : ℕ → Bool
is_line_end b = b == 10

-- blanks are the space and the tab
abbrev pub is_blank : ℕ → Bool
is_blank b = (b == 32) || (b == 9)

-- a line without the CR that may end it
abbrev pub without_return : List ℕ → List ℕ
without_return line = cond (slice_index line (length line - 1) == 13) (front_of line) line

-- the lines of a text
abbrev pub lines_of : List ℕ → List (List ℕ)
lines_of text = map without_return (parts_of is_line_end text)

-- the part isn't empty
abbrev pub is_token : List ℕ → Bool
is_token [] = false
is_token (b ∷ bytes) = true

-- the tokens of a text: what stands between the bytes that part them
abbrev pub tokens_between : (ℕ → Bool) → List ℕ → List (List ℕ)
tokens_between is_gap text = filter is_token (parts_of is_gap text)

-- the tokens of a piece of a line: what stands between blanks
abbrev pub tokens_of : List ℕ → List (List ℕ)
tokens_of piece = filter is_token (parts_of is_blank piece)

-- a line without the blanks that it begins with
abbrev pub after_blanks : List ℕ → List ℕ
after_blanks line = drop (position_or_len (λ b. not (is_blank b)) line) line

-- the piece begins with the name, in either case
abbrev pub begins_with : List ℕ → List ℕ → Bool
begins_with piece name = bytes_eq (map to_ascii_lowercase (take (length name) piece)) (map to_ascii_lowercase name)

-- what follows the first of the names that the piece begins with
abbrev pub after_name : List (List ℕ) → List ℕ → Option (List ℕ)
after_name [] piece = None
after_name (name ∷ names) piece = cond (begins_with piece name) (Some (drop (length name) piece)) (after_name names piece)

-- the names of a foundation line, and those of a cell line
abbrev pub foundation_names : List (List ℕ)
foundation_names =
    codes "Foundations:" ∷ codes "Foundation:" ∷ codes "Founds:" ∷ codes "Found:" ∷ codes "Decks:" ∷ codes "Deck:" ∷ []

abbrev pub cell_names : List (List ℕ)
cell_names = codes "Freecells:" ∷ codes "Freecell:" ∷ codes "FC:" ∷ []

-- a piece without the one colon that it may begin with
abbrev pub after_colon : List ℕ → List ℕ
after_colon [] = []
after_colon (b ∷ bytes) = cond (b == 58) bytes (b ∷ bytes)

-- a line: its kind, and its tokens
pub record Line : Type 0 where
  pub kind : LineKind
  pub tokens : List (List ℕ)

-- a line is sorted by the name that it begins with; without one it is a column's
abbrev pub sorted_line : Option (List ℕ) → Option (List ℕ) → List ℕ → Line
sorted_line (Some piece) cells rest = record { kind = Foundations; tokens = tokens_of piece }
sorted_line None (Some piece) rest = record { kind = Freecells; tokens = tokens_of piece }
sorted_line None None rest = record { kind = Column; tokens = tokens_of (after_colon rest) }

abbrev pub line_of : List ℕ → Line
line_of line =
    sorted_line (after_name foundation_names (after_blanks line)) (after_name cell_names (after_blanks line)) (after_blanks line)

-- a text as its lines
abbrev pub board_lines : List ℕ → List Line
board_lines text = map line_of (lines_of text)
