use Rattle.std.proofs.Common.{◌≡◌, ◌+◌, ◌*◌, ◌≤◌, ◌++◌, length, map}
use Rattle.std.specs.List.{join_with_byte, slice_split}
use Rattle.fc_text.specs.Line.{is_line_end}
use Rattle.fc_typed.specs.Respelled.{respelled_text, respelled_line}
use Rattle.fc_typed.proofs.spellings.respelled_text.Given as goal

-- the lines so far are respelled, and the rest is left
abbrev pub invariant-loop-len : goal.invariant-loop-len
invariant-loop-len l = record {
  tidy : l.tidy.items ++ join_with_byte 10 (map respelled_line (slice_split is_line_end l.rest)) ≡ respelled_text l.text;
  within : 2 * length l.tidy.items + 3 * length l.rest ≤ 3 * length l.text;
}

abbrev pub decreases-loop-len : goal.decreases-loop-len
decreases-loop-len l = length l.rest
