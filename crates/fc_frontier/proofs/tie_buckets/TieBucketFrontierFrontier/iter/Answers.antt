use Rattle.fc_frontier.specs.Stack.{nodes_of}
use Rattle.fc_frontier.specs.Tie.{pairs_of}
use Rattle.fc_frontier.specs.Walk.{pairs_in_turn}
use Rattle.fc_frontier.proofs.PlaceLemmas.{walked-tied}
use Rattle.fc_frontier.proofs.tie_buckets.TieBucketFrontierFrontier.iter.Goals as goal

pub returns : goal.returns
returns c = record {
  items = walked-tied c.of_stacks.result (pairs_in_turn 0 (nodes_of c.as_slice.result.now)) (pairs_of c.as_slice-2.result.now)
      c.self.inside.near c.self.inside.far c.args.self.now c.of_stacks.ensures.items c.as_slice.ensures.items
      c.as_slice-2.ensures.items c.self.view_is;
}
