use Rattle.std.proofs.Common.{◌≡◌, ◌+◌, ◌≤◌, length, drop}
use Rattle.fc_row_text.specs.Places.{run_on}
use Rattle.fc_row_text.proofs.readings.run_on.Given as goal

-- the entries that are left decide, and no more were counted than there are
abbrev pub invariant-loop-entry : goal.invariant-loop-entry
invariant-loop-entry l = record {
  left : run_on l.number (length l.words) (drop l.entry-index l.entries) ≡ run_on 1 (length l.words) l.entries;
  few : l.number ≤ l.entry-index + 1;
}
