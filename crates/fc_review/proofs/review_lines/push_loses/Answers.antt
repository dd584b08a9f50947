use Rattle.std.proofs.Common.{◌+◌, ◌++◌, codes, decimal}
use Rattle.fc_review.specs.Texts.{count_phrase}
use Rattle.fc_review.proofs.GlueLemmas.{glue}
use Rattle.fc_review.proofs.review_lines.push_loses.Goals as goal

pub returns : goal.returns
returns c =
    let s1 = glue c.args.text.now.items _ _ (codes "move ") (decimal (c.args.won.now.after + 1)) c.in_ok-push.ensures.text c.in_ok-push_behind.ensures.text in
    let s2 = glue c.args.text.now.items _ _ (codes "move " ++ decimal (c.args.won.now.after + 1)) (codes ", ") s1 c.in_ok-push-2.ensures.text in
    let s3 = glue c.args.text.now.items _ _ (codes "move " ++ decimal (c.args.won.now.after + 1) ++ codes ", ") (c.args.losing.now) s2 c.in_ok-extend_from_slice.ensures.items in
    let s4 = glue c.args.text.now.items _ _ (codes "move " ++ decimal (c.args.won.now.after + 1) ++ codes ", " ++ c.args.losing.now) (codes ", loses: ") s3 c.in_ok-push-3.ensures.text in
    let s5 = glue c.args.text.now.items _ _ (codes "move " ++ decimal (c.args.won.now.after + 1) ++ codes ", " ++ c.args.losing.now ++ codes ", loses: ") (count_phrase c.args.won.now.verdict) s4 c.in_ok-push_count.ensures.text in
    record { text = glue c.args.text.now.items _ _ (codes "move " ++ decimal (c.args.won.now.after + 1) ++ codes ", " ++ c.args.losing.now ++ codes ", loses: " ++ count_phrase c.args.won.now.verdict) (codes " before it, none after\n") s5 c.in_ok-push-4.ensures.text }
