use Rattle.std.proofs.Common.{◌++◌, ◌≤◌, ℕ, List, length}
use Rattle.fc_lists.specs.Alone.{AreOnLines}
use Rattle.fc_lists.specs.inner.Form.{IsLineEntry}
use Rattle.fc_lists.proofs.list_lines.told_alone.Given as goal

-- what is made of the rest goes behind the lines so far
abbrev pub invariant-loop-len : goal.invariant-loop-len
invariant-loop-len l = record {
  made : (more : List ℕ) → AreOnLines (IsLineEntry l.form) l.rest more → AreOnLines (IsLineEntry l.form) l.text (l.list.items ++ more);
  within : length l.rest ≤ length l.text;
}

abbrev pub decreases-loop-len : goal.decreases-loop-len
decreases-loop-len l = length l.rest
