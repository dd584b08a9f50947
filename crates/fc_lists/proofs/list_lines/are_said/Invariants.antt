use Rattle.std.proofs.Common.{◌↔◌, ◌≤◌, length}
use Rattle.fc_lists.specs.Alone.{AreSaid, text_lines}
use Rattle.fc_lists.proofs.list_lines.are_said.Given as goal

-- the lines that are left decide
abbrev pub invariant-loop-len : goal.invariant-loop-len
invariant-loop-len l = record {
  decide : AreSaid (text_lines l.rest) ↔ AreSaid (text_lines l.text);
  within : length l.rest ≤ length l.text;
}

abbrev pub decreases-loop-len : goal.decreases-loop-len
decreases-loop-len l = length l.rest
