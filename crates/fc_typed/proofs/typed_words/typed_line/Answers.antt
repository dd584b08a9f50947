use Rattle.std.proofs.Common.{◌+◌, ◌&&◌, not, length, refl, sym, ◌∙◌, ap, arith}
use Rattle.std.proofs.lemmas.List.{length-drop, take_rest}
use Rattle.fc_typed.specs.Title.{has_token}
use Rattle.fc_typed.proofs.TypedLemmas.{last_here, line_gone, line_here, line_passed, none_left}
use Rattle.fc_typed.proofs.typed_words.typed_line.Goals.{then-not-vanishes+else-left-eq0, else-not-vanishes}
use Rattle.fc_typed.proofs.typed_words.typed_line.Goals as goal

pub returns-then-left-eq0-clause-value : goal.returns-then-left-eq0-clause-value
returns-then-left-eq0-clause-value c =
    line_here c.loop-len.rest.now _ c.as_slice.result.now c.in-Some.len c.loop-len.is_top c.vanishes.result _ (sym c.line_len.ensures ∙ c.in-Some.is) refl
    (c.as_slice.ensures.value ∙ c.said_of-said.ensures.value, c.vanishes.ensures) c.loop-len.left c.if-left-eq0.true c.if-not-vanishes.true
    c.loop-len.invariant.told

pub loop-len-preserved : goal.loop-len-preserved
loop-len-preserved c =
    let rest = c.loop-len.rest.now in
    let found = sym c.line_len.ensures ∙ c.in-Some.is in
    let left = take_rest rest (c.in-Some.len + 1) in
    let said = c.as_slice.ensures.value ∙ c.said_of-said.ensures.value in
    let turned =
    c.stays_top-is_top.ensures
    ∙ ap (λ s. c.loop-len.is_top && not (has_token s)) (c.as_slice-in-Some.ensures.value ∙ sym c.as_slice.ensures.value) in
    record {
      told = elim c.if-not-vanishes.branch [
        | then-not-vanishes+else-left-eq0 w ↦
            line_passed rest _ c.as_slice.result.now c.in-Some.len c.loop-len.is_top c.vanishes.result _ found left (said, c.vanishes.ensures)
            c.stays_top-is_top.result c.loop-len.left c.if-not-vanishes.left turned c.loop-len.invariant.told w.if-not-vanishes.true
            (omega (arith, w.if-left-eq0.false, w.left-is))
        | else-not-vanishes w ↦
            line_gone rest _ c.as_slice.result.now c.in-Some.len c.loop-len.is_top c.vanishes.result _ found left (said, c.vanishes.ensures)
            c.stays_top-is_top.result c.loop-len.left c.if-not-vanishes.left turned c.loop-len.invariant.told w.if-not-vanishes.false w.left-is
      ];
      within = omega (arith, ap length left, length-drop (c.in-Some.len + 1) rest, c.loop-len.invariant.within);
    }

pub returns-then-left-eq0-2-clause-value : goal.returns-then-left-eq0-2-clause-value
returns-then-left-eq0-2-clause-value c =
    last_here c.loop-len.rest.now c.loop-len.is_top c.loop-len.left _ (sym c.line_len.ensures ∙ c.in_default.is) c.if-left-eq0-2.true
    c.loop-len.invariant.told

pub returns-else-left-eq0-2-clause-value : goal.returns-else-left-eq0-2-clause-value
returns-else-left-eq0-2-clause-value c =
    none_left c.loop-len.rest.now c.loop-len.is_top c.loop-len.left _ (sym c.line_len.ensures ∙ c.in_default.is) c.if-left-eq0-2.false
    c.loop-len.invariant.told
