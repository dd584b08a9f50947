use Rattle.std.proofs.Common.{◌≡◌, ◌+◌, ◌≤◌, length}
use Rattle.fc_lists.specs.Alone.{text_lines}
use Rattle.fc_lists.specs.inner.Spaces.{lines_left, solver_lines}
use Rattle.fc_lists.proofs.letter_lines.solver_lines.Given as goal

-- the lines that are left decide
abbrev pub invariant-loop-len : goal.invariant-loop-len
invariant-loop-len l = record {
  lines : lines_left l.first l.number (text_lines l.rest) ≡ solver_lines l.otherwise (text_lines l.text);
  within : l.number + length l.rest ≤ length l.text;
}

abbrev pub decreases-loop-len : goal.decreases-loop-len
decreases-loop-len l = length l.rest
