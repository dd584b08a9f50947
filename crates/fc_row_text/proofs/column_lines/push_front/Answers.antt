use Rattle.std.proofs.Common.{◌++◌, ◌∙◌, ap}
use Rattle.std.specs.List.{flat_map}
use Rattle.fc_row_text.specs.RowText.{front_text, row_lines}
use Rattle.fc_row_text.specs.inner.RowLine.{IsFull}
use Rattle.fc_row_text.specs.Lines.{lines_left}
use Rattle.fc_row_text.proofs.PushLemmas.{handed_on, told_all, told_full, told_pushed}
use Rattle.fc_row_text.proofs.column_lines.push_front.Goals as goal

pub loop-told-init : goal.loop-told-init
loop-told-init c =
    let made = c.into_iter-told-iterator.ensures.into_iter_gives in
    ap (λ ls. c.args.bytes.now.items ++ flat_map front_text ls)
    (ap lines_left made ∙ c.new-told-items.ensures.lines)

pub loop-told-preserved : goal.loop-told-preserved
loop-told-preserved c =
    told_pushed front_text _ c.loop-told.bytes.items _ _ _ _ c.in-Some.ensures.steps c.loop-told.invariant c.in_ok-push_row_line.ensures.pushed

pub returns-in_err-push_row_line-clause-full : goal.returns-in_err-push_row_line-clause-full
returns-in_err-push_row_line-clause-full c =
    let old = c.args.bytes.now.items in
    let text = flat_map front_text (row_lines c.args.text.now) in
    let fault = c.in_err-push_row_line.field-0.0 in
    handed_on (IsFull old text) c.from_residual.result fault c.from_residual.ensures.1
    (told_full front_text old text c.loop-told.bytes.items _ _ _ fault c.in-Some.ensures.steps c.loop-told.invariant c.in_err-push_row_line.ensures.full)

pub returns-clause-pushed : goal.returns-clause-pushed
returns-clause-pushed c = told_all front_text _ c.loop-told.bytes.items _ c.in-None.ensures.steps.0 c.loop-told.invariant
