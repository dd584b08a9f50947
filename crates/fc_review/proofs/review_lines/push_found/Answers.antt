use Rattle.std.proofs.Common.{codes, decimal}
use Rattle.fc_review.proofs.GlueLemmas.{glue}
use Rattle.fc_review.proofs.review_lines.push_found.Goals as goal

pub returns : goal.returns
returns c =
    record { text = glue c.args.text.now.items _ _ (codes "; the best one found has ") (decimal c.args.found) c.in_ok-push.ensures.text c.in_ok-push_number.ensures.text }
