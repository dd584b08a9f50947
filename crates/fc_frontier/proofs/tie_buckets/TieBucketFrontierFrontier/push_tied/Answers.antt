use Rattle.std.proofs.Common.{◌<◌, ◌≤◌, ◌∙◌, ap, arith}
use Rattle.std.proofs.lemmas.Result.{on_ok_weaker}
use Rattle.fc_frontier.specs.Place.{place_of}
use Rattle.fc_frontier.specs.Queue.{with_pair}
use Rattle.fc_frontier.proofs.PlaceLemmas.{put-adds}
use Rattle.fc_frontier.proofs.QueueLemmas.{pushed-all, pushed-near, pushed-far}
use Rattle.fc_frontier.proofs.tie_buckets.TieBucketFrontierFrontier.push_tied.Goals as goal

pub invariant_of-self : goal.invariant_of-self
invariant_of-self c = (
  pushed-all (λ q. q.0 < 524288) c.push.result (place_of c.args.f c.args.tie, c.args.node) c.self.inside.near c.push.new.self
      c.push.ensures.order c.push.ensures.refused (omega (arith, c.if-f-lt-NEAR.true, c.ranges.tie.fits)) c.self.invariant.0,
  c.self.invariant.1,
)

pub invariant_of-self-else-f-lt-NEAR : goal.invariant_of-self-else-f-lt-NEAR
invariant_of-self-else-f-lt-NEAR c = (
  c.self.invariant.0,
  pushed-all (λ q. 524288 ≤ q.0) c.push-else-f-lt-NEAR.result (place_of c.args.f c.args.tie, c.args.node) c.self.inside.far
      c.push-else-f-lt-NEAR.new.self c.push-else-f-lt-NEAR.ensures.order c.push-else-f-lt-NEAR.ensures.refused
      (omega (arith, c.if-f-lt-NEAR.false)) c.self.invariant.1,
)

pub returns-then-f-lt-NEAR-clause-order : goal.returns-then-f-lt-NEAR-clause-order
returns-then-f-lt-NEAR-clause-order c = on_ok_weaker c.push.result
    (λ is. pushed-near 524288 (place_of c.args.f c.args.tie, c.args.node) c.self.inside.near c.self.inside.far c.push.new.self
    (omega (arith, c.if-f-lt-NEAR.true, c.ranges.tie.fits)) c.self.invariant.1 is
    ∙ ap (with_pair (place_of c.args.f c.args.tie, c.args.node)) c.self.view_is)
    c.push.ensures.order

pub returns-then-f-lt-NEAR-clause-added : goal.returns-then-f-lt-NEAR-clause-added
returns-then-f-lt-NEAR-clause-added c = on_ok_weaker c.push.result
    (put-adds c.args.f c.args.tie c.args.node c.args.self.now _ (omega (arith, c.ranges.tie.fits)))
    (returns-then-f-lt-NEAR-clause-order c)

pub returns-else-f-lt-NEAR-clause-order : goal.returns-else-f-lt-NEAR-clause-order
returns-else-f-lt-NEAR-clause-order c = on_ok_weaker c.push-else-f-lt-NEAR.result
    (λ is. pushed-far 524288 (place_of c.args.f c.args.tie, c.args.node) c.self.inside.near c.self.inside.far
    c.push-else-f-lt-NEAR.new.self (omega (arith, c.if-f-lt-NEAR.false)) c.self.invariant.0 is
    ∙ ap (with_pair (place_of c.args.f c.args.tie, c.args.node)) c.self.view_is)
    c.push-else-f-lt-NEAR.ensures.order

pub returns-else-f-lt-NEAR-clause-added : goal.returns-else-f-lt-NEAR-clause-added
returns-else-f-lt-NEAR-clause-added c = on_ok_weaker c.push-else-f-lt-NEAR.result
    (put-adds c.args.f c.args.tie c.args.node c.args.self.now _ (omega (arith, c.ranges.tie.fits)))
    (returns-else-f-lt-NEAR-clause-order c)
