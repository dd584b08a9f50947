use Rattle.std.proofs.Common.{◌≡◌, ◌+◌, ◌≤◌, ◌++◌, length}
use Rattle.std.specs.List.{join_with_byte, slice_split}
use Rattle.fc_text.specs.Line.{is_line_end}
use Rattle.fc_typed.specs.Tidy.{tidy_lines, without_labels}
use Rattle.fc_typed.proofs.labels.without_labels.Given as goal

-- the lines so far are tidy, and the rest is left, with as many column lines before it
abbrev pub invariant-loop-len : goal.invariant-loop-len
invariant-loop-len l = record {
  tidy : l.tidy.items ++ join_with_byte 10 (without_labels l.columns (slice_split is_line_end l.rest)) ≡ tidy_lines l.text;
  within : length l.tidy.items + length l.rest ≤ length l.text;
  few : l.columns + length l.rest ≤ length l.text;
}

abbrev pub decreases-loop-len : goal.decreases-loop-len
decreases-loop-len l = length l.rest
