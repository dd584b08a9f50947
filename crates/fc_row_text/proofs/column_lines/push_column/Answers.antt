use Rattle.std.proofs.Common.{[], ◌∷◌, ◌++◌, ◌∙◌, ap, append_assoc}
use Rattle.std.specs.List.{flat_map}
use Rattle.std.proofs.lemmas.Result.{IfErr-weaker, on_ok_weaker}
use Rattle.fc_row_text.specs.RowText.{line_of_column, entry_text_at, row_lines}
use Rattle.fc_row_text.specs.inner.RowLine.{IsFull}
use Rattle.fc_row_text.specs.Lines.{lines_left}
use Rattle.fc_row_text.proofs.PushLemmas.{full_front, full_next, handed_on, pushed_next, told_all, told_full, told_pushed}
use Rattle.fc_row_text.proofs.column_lines.push_column.Goals as goal

pub loop-told-init : goal.loop-told-init
loop-told-init c =
    let made = c.into_iter-told-iterator.ensures.into_iter_gives in
    let f = entry_text_at c.args.column in
    let start = ap lines_left made ∙ c.new-told-items.ensures.lines in
    ap (λ ls. c.push.new.bytes.items ++ flat_map f ls) start
    ∙ ap (λ t. t ++ flat_map f (row_lines c.args.text.now)) c.in_ok-push.ensures.pushed
    ∙ append_assoc c.args.bytes.now.items (58 ∷ []) (flat_map f (row_lines c.args.text.now))

pub loop-told-preserved : goal.loop-told-preserved
loop-told-preserved c =
    told_pushed (entry_text_at c.args.column) _ c.loop-told.bytes.items _ _ _ _ c.in-Some.ensures.steps c.loop-told.invariant
    c.in_ok-push_entry.ensures.pushed

pub returns-in_err-push_entry-clause-full : goal.returns-in_err-push_entry-clause-full
returns-in_err-push_entry-clause-full c =
    let old = c.args.bytes.now.items in
    let f = entry_text_at c.args.column in
    let text = line_of_column c.args.column (row_lines c.args.text.now) in
    let fault = c.in_err-push_entry.field-0.0 in
    handed_on (IsFull old (text ++ 10 ∷ [])) c.from_residual-in_err-push_entry.result fault c.from_residual-in_err-push_entry.ensures.1
    (full_front old text (10 ∷ []) fault
    (told_full f old text c.loop-told.bytes.items _ _ _ fault c.in-Some.ensures.steps c.loop-told.invariant c.in_err-push_entry.ensures.full))

pub returns-clause-pushed : goal.returns-clause-pushed
returns-clause-pushed c =
    let text = line_of_column c.args.column (row_lines c.args.text.now) in
    let all = told_all (entry_text_at c.args.column) _ c.loop-told.bytes.items _ c.in-None.ensures.steps.0 c.loop-told.invariant in
    on_ok_weaker c.push-2.result (λ last. pushed_next c.args.bytes.now.items _ _ text (10 ∷ []) all last) c.push-2.ensures.pushed

pub returns-clause-full : goal.returns-clause-full
returns-clause-full c =
    let text = line_of_column c.args.column (row_lines c.args.text.now) in
    let all = told_all (entry_text_at c.args.column) _ c.loop-told.bytes.items _ c.in-None.ensures.steps.0 c.loop-told.invariant in
    IfErr-weaker c.push-2.result (IsFull c.loop-told.bytes.items (10 ∷ [])) (IsFull c.args.bytes.now.items (text ++ 10 ∷ []))
    (λ fault last. full_next c.args.bytes.now.items _ text (10 ∷ []) fault all last) c.push-2.ensures.full
