use Rattle.fc_frontier.specs.Stack.{nodes_of}
use Rattle.fc_frontier.specs.Walk.{pairs_in_turn}
use Rattle.fc_frontier.proofs.PlaceLemmas.{walked-one}
use Rattle.fc_frontier.proofs.WalkLemmas.{both_walked}
use Rattle.fc_frontier.proofs.buckets.BucketFrontierFrontier.iter.Goals as goal

pub returns : goal.returns
returns c = record {
  items = both_walked c.of_stacks.result (pairs_in_turn 0 (nodes_of c.as_slice.result.now)) c.as_slice-2.result.now c.self.inside.near
      c.self.inside.far c.args.self.now
      (walked-one c.of_stacks.result (pairs_in_turn 0 (nodes_of c.as_slice.result.now)) c.as_slice-2.result.now c.of_stacks.ensures.items)
      c.as_slice.ensures.items c.as_slice-2.ensures.items c.self.view_is;
}
