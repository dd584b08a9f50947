use Rattle.fc_review.proofs.RatingLemmas.{own_told}
use Rattle.fc_review.proofs.ratings.rate_alone.Goals as goal

pub returns : goal.returns
returns g c =
    let told = c.in_ok-answer.ensures.best.told in
    record {
      rated = record {
        best = told;
        own = own_told _ _ _ _ _ told c.requires.wins c.in_ok-own.ensures.own;
        certified = tt;
      };
    }
