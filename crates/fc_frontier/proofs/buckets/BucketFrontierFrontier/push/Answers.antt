use Rattle.std.proofs.Common.{◌<◌, ◌≤◌, ◌∙◌, ap}
use Rattle.std.proofs.lemmas.Result.{on_ok_weaker}
use Rattle.fc_frontier.specs.Queue.{with_pair}
use Rattle.fc_frontier.proofs.QueueLemmas.{inserted-adds_to, pushed-all, pushed-near, pushed-far}
use Rattle.fc_frontier.proofs.buckets.BucketFrontierFrontier.push.Goals as goal

pub invariant_of-self : goal.invariant_of-self
invariant_of-self c = (
  pushed-all (λ q. q.0 < 1024) c.push.result (c.args.f, c.args.node) c.self.inside.near c.push.new.self
      c.push.ensures.order c.push.ensures.refused c.if-f-lt-STACKS.true c.self.invariant.0,
  c.self.invariant.1,
)

pub invariant_of-self-else-f-lt-STACKS : goal.invariant_of-self-else-f-lt-STACKS
invariant_of-self-else-f-lt-STACKS c = (
  c.self.invariant.0,
  pushed-all (λ q. 1024 ≤ q.0) c.push-else-f-lt-STACKS.result (c.args.f, c.args.node) c.self.inside.far
      c.push-else-f-lt-STACKS.new.self c.push-else-f-lt-STACKS.ensures.order c.push-else-f-lt-STACKS.ensures.refused
      c.if-f-lt-STACKS.false c.self.invariant.1,
)

pub returns-then-f-lt-STACKS-clause-order : goal.returns-then-f-lt-STACKS-clause-order
returns-then-f-lt-STACKS-clause-order c = on_ok_weaker c.push.result
    (λ is. pushed-near 1024 (c.args.f, c.args.node) c.self.inside.near c.self.inside.far c.push.new.self c.if-f-lt-STACKS.true
    c.self.invariant.1 is ∙ ap (with_pair (c.args.f, c.args.node)) c.self.view_is)
    c.push.ensures.order

pub returns-then-f-lt-STACKS-clause-added : goal.returns-then-f-lt-STACKS-clause-added
returns-then-f-lt-STACKS-clause-added c = on_ok_weaker c.push.result
    (inserted-adds_to (c.args.f, c.args.node) c.args.self.now _) (returns-then-f-lt-STACKS-clause-order c)

pub returns-else-f-lt-STACKS-clause-order : goal.returns-else-f-lt-STACKS-clause-order
returns-else-f-lt-STACKS-clause-order c = on_ok_weaker c.push-else-f-lt-STACKS.result
    (λ is. pushed-far 1024 (c.args.f, c.args.node) c.self.inside.near c.self.inside.far c.push-else-f-lt-STACKS.new.self
    c.if-f-lt-STACKS.false c.self.invariant.0 is ∙ ap (with_pair (c.args.f, c.args.node)) c.self.view_is)
    c.push-else-f-lt-STACKS.ensures.order

pub returns-else-f-lt-STACKS-clause-added : goal.returns-else-f-lt-STACKS-clause-added
returns-else-f-lt-STACKS-clause-added c = on_ok_weaker c.push-else-f-lt-STACKS.result
    (inserted-adds_to (c.args.f, c.args.node) c.args.self.now _) (returns-else-f-lt-STACKS-clause-order c)
