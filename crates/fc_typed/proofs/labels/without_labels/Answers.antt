use Rattle.std.proofs.Common.{◌+◌, sym, ◌∙◌, rules}
use Rattle.std.proofs.lemmas.List.{take_rest}
use Rattle.fc_typed.proofs.TidyLemmas.{line_pushed, last_pushed}
use Rattle.fc_typed.proofs.labels.without_labels.Goals as goal

pub loop-len-preserved : goal.loop-len-preserved
loop-len-preserved c =
    let rest = c.loop-len.rest.now in
    record {
      tidy =
          line_pushed _ c.loop-len.tidy.items rest _ c.push_line-columns.new.tidy.items _ c.loop-len.columns _ c.in-Some.len c.loop-len.invariant.tidy
          (sym c.line_len.ensures ∙ c.in-Some.is) (take_rest rest (c.in-Some.len + 1)) c.push_line-columns.ensures.pushed
          c.push.ensures.items c.push_line-columns.ensures.count;
      within = search rules;
      few = search rules;
    }

pub returns-clause-value : goal.returns-clause-value
returns-clause-value c =
    last_pushed _ c.loop-len.tidy.items c.loop-len.rest.now _ c.loop-len.columns c.loop-len.invariant.tidy
    (sym c.line_len.ensures ∙ c.in_default.is) c.push_line.ensures.pushed
