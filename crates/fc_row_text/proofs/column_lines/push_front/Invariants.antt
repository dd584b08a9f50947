use Rattle.std.proofs.Common.{◌≡◌, ◌++◌}
use Rattle.std.specs.List.{flat_map}
use Rattle.fc_row_text.specs.RowText.{front_text, row_lines}
use Rattle.fc_row_text.specs.Lines.{lines_left}
use Rattle.fc_row_text.proofs.column_lines.push_front.Given as goal

-- what the lines so far say is written, and the others are left
abbrev pub invariant-loop-told : goal.invariant-loop-told
invariant-loop-told l =
    l.bytes.items ++ flat_map front_text (lines_left l.told-iterator)
    ≡ l.fn.bytes.items ++ flat_map front_text (row_lines l.text)
