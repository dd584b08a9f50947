use Rattle.std.proofs.Common.{◌≡◌, ◌≤◌, max, vec_len}
use Rattle.fc_frontier.specs.Stack.{nodes_of}
use Rattle.fc_frontier.specs.inner.Stack.{HasGrown}
use Rattle.fc_frontier.proofs.stacks.grow.Given as goal

abbrev pub invariant-loop : goal.invariant-loop
invariant-loop l = record {
  grown : HasGrown (nodes_of l.initial.stacks.items) (nodes_of l.stacks.items);
  count : vec_len l.stacks ≡ l.counter;
  most : vec_len l.stacks ≤ max (vec_len l.initial.stacks) l.count;
}
