use Rattle.std.proofs.Common.{sym, subst}
use Rattle.std.specs.List.Sorted.{IsPermutation}
use Rattle.fc_frontier.specs.Queue.{in_order}
use Rattle.fc_frontier.proofs.QueueLemmas.{in_order-permuted}
use Rattle.fc_frontier.proofs.lists.ListFrontier.as_slice.Goals as goal

pub returns : goal.returns
returns c = record {
  items = subst (IsPermutation c.as_slice.result.now) c.self.view_is
      (subst (λ ps. IsPermutation ps (in_order c.self.inside.pairs.items)) (sym c.as_slice.ensures.value)
      (in_order-permuted c.self.inside.pairs.items));
}
