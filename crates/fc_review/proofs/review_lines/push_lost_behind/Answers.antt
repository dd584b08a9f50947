use Rattle.std.proofs.Common.{◌++◌, codes, decimal}
use Rattle.fc_review.proofs.GlueLemmas.{glue}
use Rattle.fc_review.proofs.review_lines.push_lost_behind.Goals as goal

pub returns : goal.returns
returns c =
    let s1 = glue c.args.text.now.items _ _ (codes "no list wins after move ") (decimal c.args.lost) c.in_ok-push.ensures.text c.in_ok-push_number.ensures.text in
    record { text = glue c.args.text.now.items _ _ (codes "no list wins after move " ++ decimal c.args.lost) (codes "; before it the searches gave up\n") s1 c.in_ok-push-2.ensures.text }
