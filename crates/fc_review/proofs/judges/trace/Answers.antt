use Rattle.std.proofs.Common.{[], ◌∷◌, ◌++◌, sym, subst}
use Rattle.fc_review.specs.Review.{first_behind}
use Rattle.fc_review.specs.inner.Span.{LiesBetween}
use Rattle.fc_review.proofs.SpanLemmas.{closed, says_on, trace_same}
use Rattle.fc_review.proofs.judges.trace.Goals as goal

pub loop-after-preserved : goal.loop-after-preserved
loop-after-preserved g c =
    let before = c.loop-after.invariant.known in
    let lies = subst (LiesBetween (first_behind c.loop-after.span.won) c.loop-after.span.between c.loop-after.span.lost) (sym c.in_ok-known.ensures.after) c.in-Some.ensures.next in
    record {
      can = λ n least. c.in_ok-known.ensures.still n (c.loop-after.invariant.can n least);
      known = (
        before.0 ++ c.in_ok-known.known ∷ [],
        says_on _ _ _ _ before.0 c.in_ok-known.known before.1 c.in_ok-known.ensures.says,
        c.with-span.ensures.span before.0 c.args.count before.2 lies,
      );
    }

pub returns : goal.returns
returns g c =
    let known = c.loop-after.invariant.known in
    record {
      trace = (
        known.0,
        known.1,
        trace_same known.0 c.args.count c.loop-after.span.won c.loop-after.span.lost c.review.result c.review.ensures.won c.review.ensures.lost
            (closed known.0 c.args.count c.loop-after.span.won c.loop-after.span.between c.loop-after.span.lost known.2 c.in_default.ensures.next),
      );
    }
