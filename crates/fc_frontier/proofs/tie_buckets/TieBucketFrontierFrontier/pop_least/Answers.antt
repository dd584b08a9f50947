use Rattle.std.proofs.Common.{◌<◌, ◌≤◌, subst}
use Rattle.fc_frontier.specs.Queue.{IsLeast}
use Rattle.fc_frontier.proofs.PlaceLemmas.{first-all, least-pair}
use Rattle.fc_frontier.proofs.QueueLemmas.{taken-all, near-least}
use Rattle.fc_frontier.proofs.tie_buckets.TieBucketFrontierFrontier.pop_least.Goals as goal

pub invariant_of-self : goal.invariant_of-self
invariant_of-self c = (
  taken-all (λ q. q.0 < 524288) c.pop_least.result c.self.inside.near c.pop_least.new.self c.pop_least.ensures.order
      c.self.invariant.0,
  c.self.invariant.1,
)

pub invariant_of-self-in-None : goal.invariant_of-self-in-None
invariant_of-self-in-None c = (
  taken-all (λ q. q.0 < 524288) c.pop_least.result c.self.inside.near c.pop_least.new.self c.pop_least.ensures.order
      c.self.invariant.0,
  first-all (λ q. 524288 ≤ q.0) c.pop_least-in-None.result c.self.inside.far c.pop_least-in-None.new.self
      c.pop_least-in-None.ensures.order c.pop_least-in-None.ensures.unchanged c.self.invariant.1,
)

pub returns-in-Some-clause-least : goal.returns-in-Some-clause-least
returns-in-Some-clause-least c =
    least-pair (c.in-Some.place, c.in-Some.node) c.args.self.now
    (subst (IsLeast (c.in-Some.place, c.in-Some.node)) c.self.view_is
    (near-least 524288 (c.in-Some.place, c.in-Some.node) c.self.inside.near c.self.inside.far c.pop_least.new.self
    c.in-Some.ensures.order c.self.invariant.0 c.self.invariant.1 c.in-Some.ensures.least))
