-- Files of several boards, which lines of dashes part.
use Rattle.std.specs.Prelude.{ℕ, ◌+◌, ◌==◌, ◌&&◌, Bool, not, cond, List, [], ◌∷◌, length, drop, filter, nat_le}
use Rattle.std.specs.Char.{is_ascii_whitespace}
use Rattle.std.specs.List.{concat, list_all, position_or_len, slice_split}
use Rattle.fc_text.specs.Line.{begin_part, is_line_end}

-- the lines of a file, each with the LF that ends it
abbrev pub ended_lines : List ℕ → List (List ℕ)
ended_lines [] = []
ended_lines (b ∷ bytes) = cond (is_line_end b) ((b ∷ []) ∷ ended_lines bytes) (begin_part b (ended_lines bytes))

-- a text has nothing but blanks, the ends of lines among them
abbrev pub is_blank_text : List ℕ → Bool
is_blank_text text = list_all is_ascii_whitespace text

-- a dash
abbrev pub is_dash : ℕ → Bool
is_dash b = b == 45

-- three dashes or more, and nothing but blanks behind them
abbrev pub are_dashes : List ℕ → Bool
are_dashes text = nat_le 3 (position_or_len (λ b. not (is_dash b)) text)
    && is_blank_text (drop (position_or_len (λ b. not (is_dash b)) text) text)

-- a line parts boards: it has three dashes or more, and else blanks about them
abbrev pub is_rule : List ℕ → Bool
is_rule line = are_dashes (drop (position_or_len (λ b. not (is_ascii_whitespace b)) line) line)

-- parts of a file, each as its text and the number of lines above it: so many above the first, and a line of dashes above each other
abbrev pub placed_parts : ℕ → List (List (List ℕ)) → List (List ℕ × ℕ)
placed_parts above [] = []
placed_parts above (part ∷ parts) = (concat part, above) ∷ placed_parts (above + length part + 1) parts

-- a part is a board if it has more than blanks
abbrev pub is_board_part : List ℕ × ℕ → Bool
is_board_part part = not (is_blank_text part.0)

-- the boards of a text below so many lines of its file: what lines of dashes part, each with how many lines of the file stand above it
abbrev pub boards_below : ℕ → List ℕ → List (List ℕ × ℕ)
boards_below above text = filter is_board_part (placed_parts above (slice_split is_rule (ended_lines text)))

-- the boards of a file, each as its text and the number of lines above it
abbrev pub listed_boards : List ℕ → List (List ℕ × ℕ)
listed_boards text = boards_below 0 text
