use Rattle.std.proofs.Common.{◌≡◌, ◌+◌, length}
use Rattle.fc_row_text.specs.RowText.{first_fault, none_left, row_lines}
use Rattle.fc_row_text.specs.Lines.{lines_left}
use Rattle.fc_row_text.proofs.row_checks.check_lines.Given as goal

-- the lines so far have no fault, and the others are left
abbrev pub invariant-loop-told : goal.invariant-loop-told
invariant-loop-told l = record {
  fault : first_fault l.left l.number (lines_left l.told-iterator) ≡ first_fault none_left 1 (row_lines l.text);
  number : l.number + length (lines_left l.told-iterator) ≡ 1 + length (row_lines l.text);
}
