use Rattle.std.proofs.Common.{take, sym, ◌∙◌, ap}
use Rattle.std.specs.List.{position_or_len}
use Rattle.std.proofs.lemmas.List.{take_all}
use Rattle.fc_typed.specs.Comment.{is_comment_mark}
use Rattle.fc_typed.proofs.TidyLemmas.{first_at, none_at}
use Rattle.fc_typed.proofs.comments.before_comment.Goals as goal

pub returns-in-Some-clause-value : goal.returns-in-Some-clause-value
returns-in-Some-clause-value c =
    let line = c.args.line.now in
    ap (λ n. take n line) (sym (first_at is_comment_mark line c.in-Some.len (sym c.comment_at.ensures ∙ c.in-Some.is)).1)

pub returns-in-None-clause-value : goal.returns-in-None-clause-value
returns-in-None-clause-value c =
    let line = c.args.line.now in
    sym (take_all (position_or_len is_comment_mark line) line (none_at is_comment_mark line (sym c.comment_at.ensures ∙ c.in-None.is)))
