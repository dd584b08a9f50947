use Rattle.std.proofs.Common.{◌≡◌, ◌+◌, ◌≤◌, ◌++◌, length, map}
use Rattle.std.specs.List.{enumerate_from, join_with_byte}
use Rattle.fc_lists.specs.Alone.{letters_alone, letters_at, text_lines}
use Rattle.fc_lists.proofs.list_lines.letters_alone.Given as goal

-- the lines so far are made, and the rest is left
abbrev pub invariant-loop-len : goal.invariant-loop-len
invariant-loop-len l = record {
  made : l.list.items ++ join_with_byte 10 (map (letters_at l.lines) (enumerate_from l.number (text_lines l.rest))) ≡ letters_alone l.lines l.text;
  within : l.number + length l.rest ≤ length l.text;
}

abbrev pub decreases-loop-len : goal.decreases-loop-len
decreases-loop-len l = length l.rest
