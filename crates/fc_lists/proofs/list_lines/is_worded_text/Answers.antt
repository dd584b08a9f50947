use Rattle.std.proofs.Common.{◌+◌, refl, sym, ◌∙◌, rules}
use Rattle.std.proofs.lemmas.List.{take_rest}
use Rattle.fc_lists.proofs.AloneLemmas.{worded_here, worded_last, worded_next}
use Rattle.fc_lists.proofs.list_lines.is_worded_text.Goals as goal

pub returns-then-is_worded : goal.returns-then-is_worded
returns-then-is_worded c = record {
  value = (
    λ t. worded_here c.args.text.now c.loop-len.rest.now c.loop-len.invariant.decide c.in-Some.len (sym c.line_len.ensures ∙ c.in-Some.is)
        (c.is_worded.ensures.value.0 c.if-is_worded.true),
    λ a. refl,
  );
}

pub loop-len-preserved : goal.loop-len-preserved
loop-len-preserved c = record {
  decide = worded_next c.args.text.now c.loop-len.rest.now c.loop-len.invariant.decide _ c.in-Some.len (sym c.line_len.ensures ∙ c.in-Some.is)
      (take_rest c.loop-len.rest.now (c.in-Some.len + 1)) (λ tells. absurd (cc (c.is_worded.ensures.value.1 tells, c.if-is_worded.false)));
  within = search rules;
}

pub returns : goal.returns
returns c = record {
  value = worded_last c.args.text.now c.loop-len.rest.now c.loop-len.invariant.decide c.is_worded-2.result (sym c.line_len.ensures ∙ c.in_default.is)
      c.is_worded-2.ensures.value;
}
