use Rattle.std.proofs.Common.{◌≡◌, ◌+◌, ◌≤◌, ◌++◌, length}
use Rattle.fc_typed.specs.Title.{without_title}
use Rattle.fc_typed.proofs.titles.without_title.Given as goal

-- the lines so far are blank, and the rest is left
abbrev pub invariant-loop-len : goal.invariant-loop-len
invariant-loop-len l = record {
  tidy : l.tidy.items ++ without_title l.rest ≡ without_title l.text;
  within : length l.tidy.items + length l.rest ≤ length l.text;
}

abbrev pub decreases-loop-len : goal.decreases-loop-len
decreases-loop-len l = length l.rest
