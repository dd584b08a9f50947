use Rattle.std.proofs.Common.{◌≡◌, ℕ, ◌<◌, ◌≤◌, [], slice_index_or}
use Rattle.fc_frontier.specs.Stack.{nodes_of}
use Rattle.fc_frontier.proofs.stacks.first_full.Given as goal

abbrev pub invariant-loop-place : goal.invariant-loop-place
invariant-loop-place l = (k : ℕ) → l.from ≤ k → k < l.place → slice_index_or (nodes_of l.stacks) k [] ≡ []
