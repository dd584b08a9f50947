use Rattle.std.proofs.Common.{◌+◌, ◌++◌, codes, decimal}
use Rattle.fc_review.specs.Texts.{list_phrase}
use Rattle.fc_review.proofs.GlueLemmas.{glue}
use Rattle.fc_review.proofs.review_lines.push_between.Goals as goal

pub returns : goal.returns
returns c =
    let s1 = glue c.args.text.now.items _ _ (codes "one of the moves ") (decimal (c.args.won.now.after + 1)) c.in_ok-push.ensures.text c.in_ok-push_behind.ensures.text in
    let s2 = glue c.args.text.now.items _ _ (codes "one of the moves " ++ decimal (c.args.won.now.after + 1)) (codes " to ") s1 c.in_ok-push-2.ensures.text in
    let s3 = glue c.args.text.now.items _ _ (codes "one of the moves " ++ decimal (c.args.won.now.after + 1) ++ codes " to ") (decimal c.args.lost) s2 c.in_ok-push_number.ensures.text in
    let s4 = glue c.args.text.now.items _ _ (codes "one of the moves " ++ decimal (c.args.won.now.after + 1) ++ codes " to " ++ decimal c.args.lost) (codes " loses: before move ") s3 c.in_ok-push-3.ensures.text in
    let s5 = glue c.args.text.now.items _ _ (codes "one of the moves " ++ decimal (c.args.won.now.after + 1) ++ codes " to " ++ decimal c.args.lost ++ codes " loses: before move ") (decimal (c.args.won.now.after + 1)) s4 c.in_ok-push_behind-2.ensures.text in
    let s6 = glue c.args.text.now.items _ _ (codes "one of the moves " ++ decimal (c.args.won.now.after + 1) ++ codes " to " ++ decimal c.args.lost ++ codes " loses: before move " ++ decimal (c.args.won.now.after + 1)) (codes " ") s5 c.in_ok-push-4.ensures.text in
    let s7 = glue c.args.text.now.items _ _ (codes "one of the moves " ++ decimal (c.args.won.now.after + 1) ++ codes " to " ++ decimal c.args.lost ++ codes " loses: before move " ++ decimal (c.args.won.now.after + 1) ++ codes " ") (list_phrase c.args.won.now.verdict) s6 c.in_ok-push_list.ensures.text in
    let s8 = glue c.args.text.now.items _ _ (codes "one of the moves " ++ decimal (c.args.won.now.after + 1) ++ codes " to " ++ decimal c.args.lost ++ codes " loses: before move " ++ decimal (c.args.won.now.after + 1) ++ codes " " ++ list_phrase c.args.won.now.verdict) (codes ", after move ") s7 c.in_ok-push-5.ensures.text in
    let s9 = glue c.args.text.now.items _ _ (codes "one of the moves " ++ decimal (c.args.won.now.after + 1) ++ codes " to " ++ decimal c.args.lost ++ codes " loses: before move " ++ decimal (c.args.won.now.after + 1) ++ codes " " ++ list_phrase c.args.won.now.verdict ++ codes ", after move ") (decimal c.args.lost) s8 c.in_ok-push_number-2.ensures.text in
    record { text = glue c.args.text.now.items _ _ (codes "one of the moves " ++ decimal (c.args.won.now.after + 1) ++ codes " to " ++ decimal c.args.lost ++ codes " loses: before move " ++ decimal (c.args.won.now.after + 1) ++ codes " " ++ list_phrase c.args.won.now.verdict ++ codes ", after move " ++ decimal c.args.lost) (codes " none; in between the searches gave up\n") s9 c.in_ok-push-6.ensures.text }
