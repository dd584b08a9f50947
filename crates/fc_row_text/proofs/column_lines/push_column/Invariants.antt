use Rattle.std.proofs.Common.{◌≡◌, ◌++◌}
use Rattle.std.specs.List.{flat_map}
use Rattle.fc_row_text.specs.RowText.{line_of_column, entry_text_at, row_lines}
use Rattle.fc_row_text.specs.Lines.{lines_left}
use Rattle.fc_row_text.proofs.column_lines.push_column.Given as goal

-- the entries of the rows so far are written, and the others are left
abbrev pub invariant-loop-told : goal.invariant-loop-told
invariant-loop-told l =
    l.bytes.items ++ flat_map (entry_text_at l.column) (lines_left l.told-iterator)
    ≡ l.fn.bytes.items ++ line_of_column l.column (row_lines l.text)
