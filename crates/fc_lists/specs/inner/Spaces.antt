-- What stands before the entries of a line, and of a text.
use Rattle.std.specs.Prelude.{ℕ, ◌+◌, nat_lt, not, cond, List, Option, Some, None, position}
use Rattle.std.specs.Char.{is_ascii_whitespace}
use Rattle.std.specs.List.{position_or_len}
use Rattle.fc_lists.specs.Alone.{behind_ruled, ends_entries}
use Rattle.fc_lists.specs.declared.letter_lines.LetterLines.{LetterLines}

-- how many bytes of white space a line begins with
abbrev pub space_len : List ℕ → ℕ
space_len line = position_or_len (λ b. not (is_ascii_whitespace b)) line

-- a number of a line, behind so many lines
abbrev pub number_behind : ℕ → Option ℕ → Option ℕ
number_behind number None = None
number_behind number (Some k) = Some (number + k)

-- the lines with a solver's entries among those behind so many lines: they begin behind the last ruled one, or else where they did so far
abbrev pub lines_left : ℕ → ℕ → List (List ℕ) → LetterLines
lines_left first number lines = record {
  first = cond (nat_lt 0 (behind_ruled lines)) (number + behind_ruled lines) first;
  end = number_behind number (position ends_entries lines);
}

-- and among all lines
abbrev pub solver_lines : ℕ → List (List ℕ) → LetterLines
solver_lines otherwise lines = record {
  first = cond (nat_lt 0 (behind_ruled lines)) (behind_ruled lines) otherwise;
  end = position ends_entries lines;
}
