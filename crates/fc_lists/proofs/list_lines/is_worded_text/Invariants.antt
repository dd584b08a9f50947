use Rattle.std.proofs.Common.{◌↔◌, ◌≤◌, length}
use Rattle.fc_lists.specs.Alone.{AreWorded, text_lines}
use Rattle.fc_lists.proofs.list_lines.is_worded_text.Given as goal

-- the lines that are left decide
abbrev pub invariant-loop-len : goal.invariant-loop-len
invariant-loop-len l = record {
  decide : AreWorded (text_lines l.rest) ↔ AreWorded (text_lines l.text);
  within : length l.rest ≤ length l.text;
}

abbrev pub decreases-loop-len : goal.decreases-loop-len
decreases-loop-len l = length l.rest
