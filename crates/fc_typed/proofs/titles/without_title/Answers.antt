use Rattle.std.proofs.Common.{◌+◌, ◌∷◌, [], length, take, sym, ◌∙◌, ap, arith}
use Rattle.std.proofs.lemmas.List.{length-append, length-drop, length-take, take_rest}
use Rattle.fc_text.specs.Line.{is_line_end}
use Rattle.fc_typed.proofs.TidyLemmas.{first_at}
use Rattle.fc_typed.proofs.TitleLemmas.{blanks_pushed, last_untitled, no_title_left, title_left}
use Rattle.fc_typed.proofs.titles.without_title.Goals as goal

pub loop-len-preserved : goal.loop-len-preserved
loop-len-preserved c =
    let rest = c.loop-len.rest.now in
    let line = take c.in-Some.len rest in
    let found = sym c.line_len.ensures ∙ c.in-Some.is in
    let left = take_rest rest (c.in-Some.len + 1) in
    let at = first_at is_line_end rest c.in-Some.len found in
    record {
      tidy =
          blanks_pushed rest _ c.in-Some.len found left _ c.loop-len.tidy.items _ _ c.loop-len.invariant.tidy
          (sym c.has_token.ensures ∙ c.if-has_token.false) c.push_all-in-Some.ensures c.push.ensures.items;
      within = omega (
        arith,
        at.0,
        at.1,
        ap length left,
        length-drop (c.in-Some.len + 1) rest,
        length-take c.in-Some.len rest,
        ap length c.push_all-in-Some.ensures,
        length-append c.loop-len.tidy.items line,
        ap length c.push.ensures.items,
        length-append c.push_all-in-Some.new.tidy.items (10 ∷ []),
        c.loop-len.invariant.within,
      );
    }

pub returns-then-is_title-clause-value : goal.returns-then-is_title-clause-value
returns-then-is_title-clause-value c =
    title_left c.loop-len.rest.now _ c.in-Some.len (sym c.line_len.ensures ∙ c.in-Some.is) (take_rest c.loop-len.rest.now (c.in-Some.len + 1))
    _ c.loop-len.tidy.items _ c.loop-len.invariant.tidy (sym c.has_token.ensures ∙ c.if-has_token.true) (sym c.is_title.ensures ∙ c.if-is_title.true) c.push_all.ensures

pub returns-else-is_title-clause-value : goal.returns-else-is_title-clause-value
returns-else-is_title-clause-value c =
    no_title_left c.loop-len.rest.now _ c.in-Some.len (sym c.line_len.ensures ∙ c.in-Some.is) (take_rest c.loop-len.rest.now (c.in-Some.len + 1))
    _ c.loop-len.tidy.items _ c.loop-len.invariant.tidy (sym c.has_token.ensures ∙ c.if-has_token.true) (sym c.is_title.ensures ∙ c.if-is_title.false) c.push_all-else-is_title.ensures

pub returns-clause-value : goal.returns-clause-value
returns-clause-value c =
    last_untitled _ c.loop-len.tidy.items c.loop-len.rest.now _ c.loop-len.invariant.tidy (sym c.line_len.ensures ∙ c.in_default.is) c.push_all-2.ensures
