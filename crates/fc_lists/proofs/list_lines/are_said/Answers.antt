use Rattle.std.proofs.Common.{◌+◌, sym, ◌∙◌, rules}
use Rattle.std.proofs.lemmas.List.{take_rest}
use Rattle.fc_lists.proofs.AloneLemmas.{said_here, said_last, said_next, said_none}
use Rattle.fc_lists.proofs.list_lines.are_said.Goals as goal

pub returns-then-begins_saying : goal.returns-then-begins_saying
returns-then-begins_saying c = record {
  value = said_here c.args.text.now c.loop-len.rest.now c.loop-len.invariant.decide c.is_said.result c.in-Some.len (sym c.line_len.ensures ∙ c.in-Some.is)
      (sym c.begins_saying.ensures.value ∙ c.if-begins_saying.true) c.is_said.ensures.value;
}

pub loop-len-preserved : goal.loop-len-preserved
loop-len-preserved c = record {
  decide = said_next c.args.text.now c.loop-len.rest.now c.loop-len.invariant.decide _ c.in-Some.len (sym c.line_len.ensures ∙ c.in-Some.is)
      (take_rest c.loop-len.rest.now (c.in-Some.len + 1)) (sym c.begins_saying.ensures.value ∙ c.if-begins_saying.false);
  within = search rules;
}

pub returns-then-begins_saying-2 : goal.returns-then-begins_saying-2
returns-then-begins_saying-2 c = record {
  value = said_last c.args.text.now c.loop-len.rest.now c.loop-len.invariant.decide c.is_said-then-begins_saying-2.result (sym c.line_len.ensures ∙ c.in_default.is)
      (sym c.begins_saying-2.ensures.value ∙ c.if-begins_saying-2.true) c.is_said-then-begins_saying-2.ensures.value;
}

pub returns-else-begins_saying-2 : goal.returns-else-begins_saying-2
returns-else-begins_saying-2 c = record {
  value = said_none c.args.text.now c.loop-len.rest.now c.loop-len.invariant.decide c.begins_saying-2.result (sym c.line_len.ensures ∙ c.in_default.is)
      (sym c.begins_saying-2.ensures.value ∙ c.if-begins_saying-2.false) c.if-begins_saying-2.false;
}
