use Rattle.fc_frontier.specs.Stack.{nodes_of}
use Rattle.fc_frontier.specs.Walk.{pairs_in_turn}
use Rattle.fc_frontier.proofs.PlaceLemmas.{walked-one}
use Rattle.fc_frontier.proofs.walks.Pairs.new.Goals as goal

pub returns : goal.returns
returns c = record {
  items = walked-one c.of_stacks.result (pairs_in_turn 0 (nodes_of c.args.stacks.now)) c.args.far.now c.of_stacks.ensures.items;
}
