-- The lines of a text, as they are told one after the other.
use Rattle.std.specs.Prelude.{List}
use Rattle.fc_text.specs.Line.{lines_of}
use Rattle.fc_row_text.specs.RowText.{RowLine, row_lines_below}
use Rattle.fc_row_text.specs.declared.row_lines.LineTold.{LineTold}
use Rattle.fc_row_text.specs.declared.row_lines.RowLines.{RowLines}

-- a line as it is told
abbrev pub row_line_of : LineTold → RowLine
row_line_of told = record { kind = told.kind; line = told.line.now; reading = told.reading }

-- the lines that are left
abbrev pub lines_left : RowLines → List RowLine
lines_left s = row_lines_below s.names s.head s.above (lines_of s.rest.now)
