use Rattle.std.proofs.Common.{arith}
use Rattle.fc_frontier.specs.Stack.{nodes_of}
use Rattle.fc_frontier.proofs.StackLemmas.{grown-more}
use Rattle.fc_frontier.proofs.stacks.grow.Goals as goal

pub loop-preserved : goal.loop-preserved
loop-preserved c = record {
  grown = grown-more (nodes_of c.args.stacks.now.items) c.loop.stacks.items c.push.new.self.items c.new.result c.loop.invariant.grown
      c.in_ok-push.ensures.items c.new.ensures.items;
  count = omega (arith, c.in_ok-push.ensures.len, c.loop.invariant.count);
  most = omega (arith, c.in_ok-push.ensures.len, c.loop.invariant.count, c.loop-test.true);
}
