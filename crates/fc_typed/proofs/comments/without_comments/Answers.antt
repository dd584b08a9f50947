use Rattle.std.proofs.Common.{◌+◌, sym, ◌∙◌, rules}
use Rattle.std.proofs.lemmas.List.{take_rest}
use Rattle.fc_typed.proofs.CommentLemmas.{said_pushed, last_said}
use Rattle.fc_typed.proofs.comments.without_comments.Goals as goal

pub loop-len-preserved : goal.loop-len-preserved
loop-len-preserved c =
    let rest = c.loop-len.rest.now in
    record {
      tidy =
          said_pushed _ c.loop-len.tidy.items rest _ c.push_ended.new.tidy.items c.in-Some.len c.loop-len.invariant.tidy
          (sym c.line_len.ensures ∙ c.in-Some.is) (take_rest rest (c.in-Some.len + 1)) c.push_ended.ensures.pushed;
      within = search rules;
    }

pub returns-clause-value : goal.returns-clause-value
returns-clause-value c =
    last_said _ c.loop-len.tidy.items c.loop-len.rest.now _ c.loop-len.invariant.tidy
    (sym c.line_len.ensures ∙ c.in_default.is) c.push_said.ensures.pushed
