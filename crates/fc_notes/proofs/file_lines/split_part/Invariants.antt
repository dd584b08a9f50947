use Rattle.std.proofs.Common.{◌+◌, ◌≤◌, length}
use Rattle.fc_notes.specs.inner.Passed.{Passes}
use Rattle.fc_notes.proofs.file_lines.split_part.Given as goal

-- the lines above the rest part nothing
abbrev pub invariant-loop-line : goal.invariant-loop-line
invariant-loop-line l = record {
  passed : Passes l.text l.rest l.lines;
  within : l.lines + length l.rest ≤ length l.text;
}

abbrev pub decreases-loop-line : goal.decreases-loop-line
decreases-loop-line l = length l.rest
