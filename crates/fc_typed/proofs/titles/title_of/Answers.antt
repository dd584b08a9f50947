use Rattle.std.proofs.Common.{◌+◌, refl, sym, ◌∙◌, rules}
use Rattle.std.proofs.lemmas.List.{take_rest}
use Rattle.fc_typed.proofs.TitleLemmas.{last_title, no_title_here, title_behind, title_here}
use Rattle.fc_typed.proofs.titles.title_of.Goals as goal

pub loop-len-preserved : goal.loop-len-preserved
loop-len-preserved c = record {
  told =
      sym (title_behind c.loop-len.rest.now _ c.in-Some.len (sym c.line_len.ensures ∙ c.in-Some.is) (take_rest c.loop-len.rest.now (c.in-Some.len + 1))
      (sym c.has_token.ensures ∙ c.if-has_token.false)) ∙ c.loop-len.invariant.told;
  within = search rules;
}

pub returns-clause-value : goal.returns-clause-value
returns-clause-value c =
    sym (last_title c.loop-len.rest.now (sym c.line_len.ensures ∙ c.in_default.is)) ∙ c.loop-len.invariant.told

pub returns-then-is_title-clause-value : goal.returns-then-is_title-clause-value
returns-then-is_title-clause-value c =
    sym (title_here c.loop-len.rest.now _ c.in-Some.len (sym c.line_len.ensures ∙ c.in-Some.is) refl
    (sym c.has_token.ensures ∙ c.if-has_token.true) (sym c.is_title.ensures ∙ c.if-is_title.true)) ∙ c.loop-len.invariant.told

pub returns-then-has_token-clause-value : goal.returns-then-has_token-clause-value
returns-then-has_token-clause-value c =
    sym (no_title_here c.loop-len.rest.now _ c.in-Some.len (sym c.line_len.ensures ∙ c.in-Some.is) refl
    (sym c.has_token.ensures ∙ c.if-has_token.true) (sym c.is_title.ensures ∙ c.if-is_title.false)) ∙ c.loop-len.invariant.told
