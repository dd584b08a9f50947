use Rattle.std.proofs.Common.{◌++◌, codes}
use Rattle.fc_review.specs.Texts.{list_phrase}
use Rattle.fc_review.proofs.GlueLemmas.{glue}
use Rattle.fc_review.proofs.review_lines.push_from_here.Goals as goal

pub returns : goal.returns
returns c =
    let s1 = glue c.args.text.now.items _ _ (c.args.told.now) (codes ": from here ") c.in_ok-push.ensures.text c.in_ok-push-2.ensures.text in
    let s2 = glue c.args.text.now.items _ _ (c.args.told.now ++ codes ": from here ") (list_phrase c.args.won.now.verdict) s1 c.in_ok-push_list.ensures.text in
    record { text = glue c.args.text.now.items _ _ (c.args.told.now ++ codes ": from here " ++ list_phrase c.args.won.now.verdict) (codes "\n") s2 c.in_ok-push-3.ensures.text }
