use Rattle.std.proofs.Common.{◌≡◌, ◌-◌}
use Rattle.std.specs.List.{range_with_len}
use Rattle.fc_row_text.specs.RowText.{left_above}
use Rattle.fc_row_text.specs.Lines.{row_line_of}
use Rattle.fc_row_text.proofs.row_checks.left_above.Given as goal

-- the columns from this one on are left
abbrev pub invariant-loop-column : goal.invariant-loop-column
invariant-loop-column l =
    left_above l.left (row_line_of l.told) (range_with_len l.column (8 - l.column)) ≡ left_above l.left (row_line_of l.told) (range_with_len 0 8)
