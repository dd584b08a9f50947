use Rattle.std.proofs.Common.{◌≡◌, ◌≤◌, ◌*◌, ◌^◌, length, take}
use Rattle.std.specs.Prelude.{sum_by}
use Rattle.fc_frontier.specs.Stack.{nodes_of}
use Rattle.fc_frontier.proofs.stacks.Stacks.len.Given as goal

abbrev pub invariant-loop-stack : goal.invariant-loop-stack
invariant-loop-stack l = record {
  sum : l.total ≡ sum_by length (take l.stack-index (nodes_of l.stack-items));
  most : l.total ≤ l.stack-index * 2 ^ 64;
}
