use Rattle.std.proofs.Common.{◌<◌, ◌≤◌, subst}
use Rattle.fc_frontier.specs.Queue.{IsLeast}
use Rattle.fc_frontier.proofs.QueueLemmas.{taken-all, near-least}
use Rattle.fc_frontier.proofs.buckets.BucketFrontierFrontier.pop_least.Goals as goal

pub invariant_of-self : goal.invariant_of-self
invariant_of-self c = (
  taken-all (λ q. q.0 < 1024) c.pop_least.result c.self.inside.near c.pop_least.new.self c.pop_least.ensures.order
      c.self.invariant.0,
  c.self.invariant.1,
)

pub invariant_of-self-in-None : goal.invariant_of-self-in-None
invariant_of-self-in-None c = (
  taken-all (λ q. q.0 < 1024) c.pop_least.result c.self.inside.near c.pop_least.new.self c.pop_least.ensures.order
      c.self.invariant.0,
  taken-all (λ q. 1024 ≤ q.0) c.pop_least-in-None.result c.self.inside.far c.pop_least-in-None.new.self
      c.pop_least-in-None.ensures.order c.self.invariant.1,
)

pub returns-in-Some-clause-least : goal.returns-in-Some-clause-least
returns-in-Some-clause-least c = subst (IsLeast c.in-Some.pair) c.self.view_is
    (near-least 1024 c.in-Some.pair c.self.inside.near c.self.inside.far c.pop_least.new.self c.in-Some.ensures.order
    c.self.invariant.0 c.self.invariant.1 c.in-Some.ensures.least)
