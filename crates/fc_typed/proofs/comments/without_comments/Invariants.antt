use Rattle.std.proofs.Common.{◌≡◌, ◌+◌, ◌≤◌, ◌++◌, length}
use Rattle.fc_typed.specs.Comment.{without_comments}
use Rattle.fc_typed.proofs.comments.without_comments.Given as goal

-- the lines so far are told, and the rest is left
abbrev pub invariant-loop-len : goal.invariant-loop-len
invariant-loop-len l = record {
  tidy : l.tidy.items ++ without_comments l.rest ≡ without_comments l.text;
  within : length l.tidy.items + length l.rest ≤ length l.text;
}

abbrev pub decreases-loop-len : goal.decreases-loop-len
decreases-loop-len l = length l.rest
