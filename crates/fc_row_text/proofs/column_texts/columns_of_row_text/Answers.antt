use Rattle.std.proofs.Common.{◌≡◌, Some, ◌≤◌, length, subst, arith}
use Rattle.fc_row_text.specs.RowText.{most_bytes, row_text_fault}
use Rattle.fc_row_text.proofs.FaultLemmas.{rows_full, rows_sound}
use Rattle.fc_row_text.proofs.PushLemmas.{columns_full, columns_made, front_full, handed_on}
use Rattle.fc_row_text.proofs.column_texts.columns_of_row_text.Goals as goal

pub returns-in_err-push_front-clause-fault : goal.returns-in_err-push_front-clause-fault
returns-in_err-push_front-clause-fault c =
    let text = c.args.text.now in
    let fault = c.in_err-push_front.field-0.0 in
    handed_on (λ f. row_text_fault text ≡ Some f) c.from_residual-in_err-push_front.result fault c.from_residual-in_err-push_front.ensures.1
    (rows_full text fault (omega arith) c.in_ok-check_lines.ensures.sound
    (front_full text c.new-bytes.result.items fault c.new-bytes.ensures c.in_err-push_front.ensures.full))

pub returns-in_err-push_columns-clause-fault : goal.returns-in_err-push_columns-clause-fault
returns-in_err-push_columns-clause-fault c =
    let text = c.args.text.now in
    let fault = c.in_err-push_columns.field-0.0 in
    handed_on (λ f. row_text_fault text ≡ Some f) c.from_residual-in_err-push_columns.result fault c.from_residual-in_err-push_columns.ensures.1
    (rows_full text fault (omega arith) c.in_ok-check_lines.ensures.sound
    (columns_full text c.new-bytes.result.items c.push_front.new.bytes.items fault c.new-bytes.ensures c.in_ok-push_front.ensures.pushed
    c.in_err-push_columns.ensures.full))

pub returns-clause-value : goal.returns-clause-value
returns-clause-value c =
    columns_made c.args.text.now c.new-bytes.result.items c.push_front.new.bytes.items c.push_columns.new.bytes.items c.new-bytes.ensures
    c.in_ok-push_front.ensures.pushed c.in_ok-push_columns.ensures.pushed

pub returns-clause-sound : goal.returns-clause-sound
returns-clause-sound c =
    let made = columns_made c.args.text.now c.new-bytes.result.items c.push_front.new.bytes.items c.push_columns.new.bytes.items c.new-bytes.ensures
    c.in_ok-push_front.ensures.pushed c.in_ok-push_columns.ensures.pushed in
    rows_sound c.args.text.now (omega arith) c.in_ok-check_lines.ensures.sound
    (subst (λ t. length t ≤ most_bytes) made c.in_ok-push_columns.ensures.within)
