-- Where in a typed text a word of its tidy text comes from.
use Rattle.std.specs.Prelude.{ℕ, ◌-◌, ◌==◌, ◌||◌, Bool, cond, List, [], ◌∷◌, Option, None, option_and_then}
use Rattle.std.specs.List.{find, slice_get, slice_split}
use Rattle.std.specs.Str.{bytes_eq}
use Rattle.fc_text.specs.Line.{is_blank, is_line_end}
use Rattle.fc_typed.specs.Comment.{is_comment, said_line}
use Rattle.fc_typed.specs.Tidy.{after_mark, without_signs}
use Rattle.fc_typed.specs.Respelled.{respelled_card, respelled_home}
use Rattle.fc_typed.specs.Title.{has_token, is_title}

-- what a typed line says
abbrev pub said_of : List ℕ → List ℕ
said_of line = said_line (without_signs 0 line)

-- a line that has nothing but a comment vanishes, unless it is the last
abbrev pub lines_without_comments : List (List ℕ) → List (List ℕ)
lines_without_comments [] = []
lines_without_comments (line ∷ []) = line ∷ []
lines_without_comments (line ∷ next ∷ lines) =
    cond (is_comment (without_signs 0 line)) (lines_without_comments (next ∷ lines)) (line ∷ lines_without_comments (next ∷ lines))

-- of these the first that says more than blanks vanishes, if it is a title and another stands below it
abbrev pub beside_title : List (List ℕ) → List (List ℕ)
beside_title [] = []
beside_title (line ∷ []) = line ∷ []
beside_title (line ∷ next ∷ lines) = cond (has_token (said_of line))
    (cond (is_title (said_of line)) (next ∷ lines) (line ∷ next ∷ lines)) (line ∷ beside_title (next ∷ lines))

-- the typed lines that the lines of the tidy text are made of, in order
abbrev pub typed_lines : List ℕ → List (List ℕ)
typed_lines text = beside_title (lines_without_comments (slice_split is_line_end (after_mark text)))

-- the line with this number, from 1
abbrev pub numbered_line : ℕ → List (List ℕ) → Option (List ℕ)
numbered_line number lines = cond (number == 0) None (slice_get lines (number - 1))

-- words stand between blanks, commas and CRs
abbrev pub is_word_gap : ℕ → Bool
is_word_gap b = is_blank b || ((b == 44) || (b == 13))

-- the word is what the piece is made, as an entry of a column or a cell, or of a foundation
abbrev pub is_made_of : List ℕ → List ℕ → Bool
is_made_of word piece =
    bytes_eq (respelled_card (without_signs 0 piece)) word || bytes_eq (respelled_home (without_signs 0 piece)) word

-- the first piece of a line that the word was made of
abbrev pub made_word : List ℕ → List ℕ → Option (List ℕ)
made_word word line = find (is_made_of word) (slice_split is_word_gap line)

-- the first piece that a word of the tidy text was made of, in the line with this number
abbrev pub typed_word : List ℕ → ℕ → List ℕ → Option (List ℕ)
typed_word text number word = option_and_then (made_word word) (numbered_line number (typed_lines text))
