use Rattle.fc_review.specs.Review.{IsKnownAlong}
use Rattle.fc_review.proofs.ReviewLemmas.{reviewed_by}
use Rattle.fc_review.proofs.reviews.review_of.Goals as goal

pub returns : goal.returns
returns g c = record {
  review = reviewed_by (λ way known. IsKnownAlong way.question.now way.start.now way.moves.now known) _ _ c.args.question.now c.args.start.now c.args.moves.now
      c.trace.result (λ known along. along) c.trace.ensures.trace;
}
