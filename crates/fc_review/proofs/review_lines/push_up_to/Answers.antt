use Rattle.std.proofs.Common.{◌++◌, codes, decimal}
use Rattle.fc_review.specs.Texts.{list_phrase}
use Rattle.fc_review.proofs.GlueLemmas.{glue}
use Rattle.fc_review.proofs.review_lines.push_up_to.Goals as goal

pub returns : goal.returns
returns c =
    let s1 = glue c.args.text.now.items _ _ (codes "no move loses up to move ") (decimal c.args.won.now.after) c.in_ok-push.ensures.text c.in_ok-push_number.ensures.text in
    let s2 = glue c.args.text.now.items _ _ (codes "no move loses up to move " ++ decimal c.args.won.now.after) (codes ": from there ") s1 c.in_ok-push-2.ensures.text in
    let s3 = glue c.args.text.now.items _ _ (codes "no move loses up to move " ++ decimal c.args.won.now.after ++ codes ": from there ") (list_phrase c.args.won.now.verdict) s2 c.in_ok-push_list.ensures.text in
    record { text = glue c.args.text.now.items _ _ (codes "no move loses up to move " ++ decimal c.args.won.now.after ++ codes ": from there " ++ list_phrase c.args.won.now.verdict) (codes "; behind it the searches gave up\n") s3 c.in_ok-push-3.ensures.text }
