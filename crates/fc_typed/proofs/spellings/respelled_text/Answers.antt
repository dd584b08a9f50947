use Rattle.std.proofs.Common.{◌+◌, sym, ◌∙◌, rules}
use Rattle.std.proofs.lemmas.List.{take_rest}
use Rattle.fc_typed.specs.Respelled.{respelled_line}
use Rattle.fc_typed.proofs.SpellingLemmas.{each_line_pushed, last_each_pushed}
use Rattle.fc_typed.proofs.spellings.respelled_text.Goals as goal

pub loop-len-preserved : goal.loop-len-preserved
loop-len-preserved c =
    let rest = c.loop-len.rest.now in
    record {
      tidy =
          each_line_pushed respelled_line _ c.loop-len.tidy.items rest _ c.push_line.new.tidy.items _ c.in-Some.len c.loop-len.invariant.tidy
          (sym c.line_len.ensures ∙ c.in-Some.is) (take_rest rest (c.in-Some.len + 1)) c.push_line.ensures.pushed c.push.ensures.items;
      within = search rules;
    }

pub returns-clause-value : goal.returns-clause-value
returns-clause-value c =
    last_each_pushed respelled_line _ c.loop-len.tidy.items c.loop-len.rest.now _ c.loop-len.invariant.tidy
    (sym c.line_len.ensures ∙ c.in_default.is) c.push_line-2.ensures.pushed
