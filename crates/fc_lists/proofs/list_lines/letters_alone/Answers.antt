use Rattle.std.proofs.Common.{◌+◌, sym, ◌∙◌, rules}
use Rattle.std.proofs.lemmas.List.{take_rest}
use Rattle.fc_lists.proofs.AloneLemmas.{letters_last, letters_next}
use Rattle.fc_lists.proofs.list_lines.letters_alone.Goals as goal

pub loop-len-preserved : goal.loop-len-preserved
loop-len-preserved c = record {
  made = letters_next c.args.lines c.args.text.now c.loop-len.rest.now c.loop-len.list.items c.loop-len.number c.loop-len.invariant.made _
      c.push_letters.new.list.items c.push.new.self.items c.in-Some.len (sym c.line_len.ensures ∙ c.in-Some.is) (take_rest c.loop-len.rest.now (c.in-Some.len + 1))
      c.in_ok-push_letters.ensures.pushed c.in_ok-push.ensures.items;
  within = search rules;
}

pub returns : goal.returns
returns c = record {
  alone = letters_last c.args.lines c.args.text.now c.loop-len.rest.now c.loop-len.list.items c.loop-len.number c.loop-len.invariant.made
      c.push_letters-2.new.list.items (sym c.line_len.ensures ∙ c.in_default.is) c.in_ok-push_letters-2.ensures.pushed;
}
