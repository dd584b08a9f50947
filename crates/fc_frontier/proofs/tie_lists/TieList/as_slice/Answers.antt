use Rattle.fc_frontier.proofs.PlaceLemmas.{entries-permuted}
use Rattle.fc_frontier.proofs.tie_lists.TieList.as_slice.Goals as goal

pub returns : goal.returns
returns c = record {
  items = entries-permuted c.self.inside.entries.items c.as_slice.result.now c.args.self.now c.as_slice.ensures.value
      c.self.invariant c.self.view_is;
}
