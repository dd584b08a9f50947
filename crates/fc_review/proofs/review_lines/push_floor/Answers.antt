use Rattle.std.proofs.Common.{◌++◌, codes, decimal}
use Rattle.fc_review.specs.Texts.{beside_phrase}
use Rattle.fc_review.proofs.GlueLemmas.{glue}
use Rattle.fc_review.proofs.review_lines.push_floor.Goals as goal

pub returns : goal.returns
returns c =
    let s1 = glue c.args.text.now.items _ _ (codes "no list wins in fewer than ") (decimal c.args.floor) c.in_ok-push.ensures.text c.in_ok-push_number.ensures.text in
    record { text = glue c.args.text.now.items _ _ (codes "no list wins in fewer than " ++ decimal c.args.floor) (beside_phrase c.args.count c.args.best.now) s1 c.in_ok-push_beside.ensures.text }
