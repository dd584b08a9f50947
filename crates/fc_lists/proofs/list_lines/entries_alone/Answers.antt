use Rattle.std.proofs.Common.{sym, subst, ap, ◌∙◌}
use Rattle.fc_lists.specs.Alone.{AreAlone, letters_alone, of_letters, of_sayings, of_words}
use Rattle.fc_lists.proofs.AloneLemmas.{ok_on}
use Rattle.fc_lists.proofs.list_lines.entries_alone.Goals as goal

pub returns-then-is_said_text : goal.returns-then-is_said_text
returns-then-is_said_text c = record {
  alone = ok_on c.told_alone.result _ _ (λ list on. of_sayings list.items (c.is_said_text.ensures.value.0 c.if-is_said_text.true) on) c.told_alone.ensures.alone;
}

pub returns-then-is_worded_text : goal.returns-then-is_worded_text
returns-then-is_worded_text c = record {
  alone = ok_on c.told_alone-then-is_worded_text.result _ _
      (λ list on. of_words list.items (λ said. absurd (cc (c.is_said_text.ensures.value.1 said, c.if-is_said_text.false)))
      (c.is_worded_text.ensures.value.0 c.if-is_worded_text.true) on) c.told_alone-then-is_worded_text.ensures.alone;
}

pub returns : goal.returns
returns c = record {
  alone = ok_on c.letters_alone.result _ _
      (λ list is. subst (AreAlone c.args.has_sequences c.args.text.now) (sym (is ∙ ap (λ l. letters_alone l c.args.text.now) c.letter_lines.ensures.value))
      (of_letters (λ said. absurd (cc (c.is_said_text.ensures.value.1 said, c.if-is_said_text.false)))
      (λ worded. absurd (cc (c.is_worded_text.ensures.value.1 worded, c.if-is_worded_text.false))))) c.letters_alone.ensures.alone;
}
