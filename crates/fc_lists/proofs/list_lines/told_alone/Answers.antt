use Rattle.std.proofs.Common.{◌+◌, sym, ◌∙◌, rules}
use Rattle.std.proofs.lemmas.List.{take_rest}
use Rattle.fc_lists.specs.inner.Form.{IsLineEntry}
use Rattle.fc_lists.proofs.AloneLemmas.{made_last, made_next}
use Rattle.fc_lists.proofs.list_lines.told_alone.Goals as goal

pub loop-len-preserved : goal.loop-len-preserved
loop-len-preserved c = record {
  made = made_next (IsLineEntry c.args.form) c.args.text.now c.loop-len.rest.now c.loop-len.list.items c.loop-len.invariant.made _ c.push_entry.new.list.items
      c.push.new.self.items c.in-Some.len (sym c.line_len.ensures ∙ c.in-Some.is) (take_rest c.loop-len.rest.now (c.in-Some.len + 1))
      c.in_ok-push_entry.ensures.pushed c.in_ok-push.ensures.items;
  within = search rules;
}

pub returns : goal.returns
returns c = record {
  alone = made_last (IsLineEntry c.args.form) c.args.text.now c.loop-len.rest.now c.loop-len.list.items c.loop-len.invariant.made c.push_entry-2.new.list.items
      (sym c.line_len.ensures ∙ c.in_default.is) c.in_ok-push_entry-2.ensures.pushed;
}
