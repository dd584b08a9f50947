use Rattle.std.proofs.Common.{◌+◌, true, false, refl, sym, ◌∙◌, ap, rules}
use Rattle.std.proofs.lemmas.List.{take_rest}
use Rattle.fc_lists.specs.inner.Spaces.{lines_left}
use Rattle.fc_lists.proofs.LineLemmas.{ends_here, ends_later, one_line}
use Rattle.fc_lists.proofs.letter_lines.solver_lines.Goals as goal

pub returns-then-ends_entries : goal.returns-then-ends_entries
returns-then-ends_entries c = record {
  value = ends_here c.loop-len.first c.loop-len.number c.loop-len.rest.now c.in-Some.len _ (sym c.line_len.ensures ∙ c.in-Some.is)
      (sym c.ends_entries.ensures.value ∙ c.if-ends_entries.true) c.loop-len.invariant.lines;
}

pub loop-len-preserved-then-is_ruled : goal.loop-len-preserved-then-is_ruled
loop-len-preserved-then-is_ruled c = record {
  lines = ends_later c.loop-len.first _ c.loop-len.number c.loop-len.rest.now _ c.in-Some.len _ true (sym c.line_len.ensures ∙ c.in-Some.is)
      (take_rest c.loop-len.rest.now (c.in-Some.len + 1)) (sym c.ends_entries.ensures.value ∙ c.if-ends_entries.false)
      (sym c.is_ruled.ensures.value ∙ c.if-is_ruled.true) refl c.loop-len.invariant.lines;
  within = search rules;
}

pub loop-len-preserved : goal.loop-len-preserved
loop-len-preserved c = record {
  lines = ends_later c.loop-len.first _ c.loop-len.number c.loop-len.rest.now _ c.in-Some.len _ false (sym c.line_len.ensures ∙ c.in-Some.is)
      (take_rest c.loop-len.rest.now (c.in-Some.len + 1)) (sym c.ends_entries.ensures.value ∙ c.if-ends_entries.false)
      (sym c.is_ruled.ensures.value ∙ c.if-is_ruled.false) refl c.loop-len.invariant.lines;
  within = search rules;
}

pub returns : goal.returns
returns c = record {
  value = c.last_lines.ensures.value ∙ ap (lines_left c.loop-len.first c.loop-len.number) (sym (one_line c.loop-len.rest.now (sym c.line_len.ensures ∙ c.in_default.is)))
      ∙ c.loop-len.invariant.lines;
}
