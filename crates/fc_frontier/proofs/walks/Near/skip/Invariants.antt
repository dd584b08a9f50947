use Rattle.std.proofs.Common.{◌≡◌, ◌+◌, ◌≤◌, ◌∷◌, length}
use Rattle.fc_frontier.specs.Stack.{nodes_of}
use Rattle.fc_frontier.specs.Walk.{pairs_in_turn}
use Rattle.fc_frontier.proofs.walks.Near.skip.Given as goal

abbrev pub invariant-loop-nodes : goal.invariant-loop-nodes
invariant-loop-nodes l = record {
  same : pairs_in_turn l.self.place (l.self.nodes.now ∷ nodes_of l.self.stacks.now)
      ≡ pairs_in_turn l.initial.self.place (l.initial.self.nodes.now ∷ nodes_of l.initial.self.stacks.now);
  ties : l.self.ties ≡ l.initial.self.ties;
  room : l.self.place + length l.self.stacks.now ≤ 524288;
}

abbrev pub decreases-loop-nodes : goal.decreases-loop-nodes
decreases-loop-nodes l = length l.self.stacks.now
