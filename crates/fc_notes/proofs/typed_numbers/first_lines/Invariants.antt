use Rattle.std.proofs.Common.{◌-◌, ◌≤◌, length}
use Rattle.fc_notes.specs.inner.Taken.{Takes}
use Rattle.fc_notes.proofs.typed_numbers.first_lines.Given as goal

-- so many lines are taken
abbrev pub invariant-loop-taken : goal.invariant-loop-taken
invariant-loop-taken l = record {
  taken : Takes l.text l.rest l.taken;
  most : l.taken ≤ l.count;
  within : length l.rest ≤ length l.text;
}

abbrev pub decreases-loop-taken : goal.decreases-loop-taken
decreases-loop-taken l = l.count - l.taken
