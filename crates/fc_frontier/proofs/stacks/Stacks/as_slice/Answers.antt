use Rattle.std.proofs.Common.{sym, subst}
use Rattle.std.specs.List.Sorted.{IsPermutation}
use Rattle.fc_frontier.specs.Stack.{nodes_of}
use Rattle.fc_frontier.specs.inner.Stack.{queue_from}
use Rattle.fc_frontier.specs.Walk.{pairs_in_turn}
use Rattle.fc_frontier.proofs.WalkLemmas.{walked-stacked}
use Rattle.fc_frontier.proofs.stacks.Stacks.as_slice.Goals as goal

pub returns-clause-items : goal.returns-clause-items
returns-clause-items c = subst (IsPermutation (pairs_in_turn 0 (nodes_of c.as_slice.result.now))) c.self.view_is
    (subst (λ stacks. IsPermutation (pairs_in_turn 0 (nodes_of stacks)) (queue_from 0 (nodes_of c.self.inside.stacks.items)))
    (sym c.as_slice.ensures.value) (walked-stacked 0 (nodes_of c.self.inside.stacks.items)))
