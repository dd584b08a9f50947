-- Comments in board texts, commas between cards, and further names of lines.
use Rattle.std.specs.Prelude.{ℕ, ◌==◌, ◌||◌, ◌&&◌, Bool, not, cond, List, [], ◌∷◌, ◌++◌, map, take, codes, Option, Some, None, nat_lt, slice_index}
use Rattle.std.specs.List.{join_with_byte, position_or_len, slice_split}
use Rattle.fc_text.specs.Line.{after_blanks, after_name, is_blank, is_line_end}

-- the blanks that a line begins with
abbrev pub blanks_of : List ℕ → List ℕ
blanks_of line = take (position_or_len (λ b. not (is_blank b)) line) line

-- a comment begins with `#`, and runs to the end of its line
abbrev pub is_comment_mark : ℕ → Bool
is_comment_mark b = b == 35

abbrev pub before_comment : List ℕ → List ℕ
before_comment line = take (position_or_len is_comment_mark line) line

-- a line has nothing but a comment, and blanks before it
abbrev pub is_comment : List ℕ → Bool
is_comment line = is_comment_mark (slice_index (after_blanks line) 0)

-- a comma is a blank
abbrev pub comma_blank : ℕ → ℕ
comma_blank b = cond (b == 44) 32 b

-- further names of a cell line
abbrev pub more_cell_names : List (List ℕ)
more_cell_names =
    codes "Cells:" ∷ codes "Cell:" ∷ codes "Free cells:" ∷ codes "Free cell:" ∷ codes "Free:" ∷ []

-- further names of a foundation line
abbrev pub more_home_names : List (List ℕ)
more_home_names = codes "Homes:" ∷ codes "Home:" ∷ []

-- a full stop or a bracket behind the number that a piece begins with, `1` to `8`, is a colon
abbrev pub is_column_digit : ℕ → Bool
is_column_digit b = nat_lt 48 b && nat_lt b 57

abbrev pub is_number_mark : ℕ → Bool
is_number_mark b = (b == 46) || (b == 41)

abbrev pub mark_colon : List ℕ → List ℕ
mark_colon (b ∷ c ∷ bytes) = cond (is_column_digit b && is_number_mark c) (b ∷ 58 ∷ bytes) (b ∷ c ∷ bytes)
mark_colon piece = piece

-- a line that begins with a further name is told by a name that the reader knows
abbrev pub renamed_line_by : Option (List ℕ) → Option (List ℕ) → List ℕ → List ℕ
renamed_line_by (Some piece) homes line = blanks_of line ++ (codes "FC:" ++ map comma_blank piece)
renamed_line_by None (Some piece) line = blanks_of line ++ (codes "Deck:" ++ map comma_blank piece)
renamed_line_by None None line = map comma_blank (blanks_of line ++ mark_colon (after_blanks line))

abbrev pub renamed_line : List ℕ → List ℕ
renamed_line line =
    renamed_line_by (after_name more_cell_names (after_blanks line)) (after_name more_home_names (after_blanks line)) line

-- what a line says: nothing, if it has nothing but a comment
abbrev pub said_line : List ℕ → List ℕ
said_line line = cond (is_comment line) [] (renamed_line (before_comment line))

-- what lines say; one that has nothing but a comment vanishes, with the LF that ends it
abbrev pub said_lines : List (List ℕ) → List (List ℕ)
said_lines [] = []
said_lines (line ∷ []) = said_line line ∷ []
said_lines (line ∷ next ∷ lines) = cond (is_comment line) (said_lines (next ∷ lines)) (said_line line ∷ said_lines (next ∷ lines))

-- a text without its comments, its lines by names that the reader knows and its cards between blanks
abbrev pub without_comments : List ℕ → List ℕ
without_comments text = join_with_byte 10 (said_lines (slice_split is_line_end text))
