use Rattle.std.proofs.Common.{ℕ, arith}
use Rattle.fc_cards.specs.Texts.{with_line_end}
use Rattle.fc_row_text.specs.RowText.{line_of_column, columns_text, row_lines}
use Rattle.fc_row_text.specs.inner.RowLine.{IsFull}
use Rattle.fc_row_text.proofs.PushLemmas.{columns_start, handed_on, range_all, range_full, range_pushed}
use Rattle.fc_row_text.proofs.column_lines.push_columns.Goals as goal

pub loop-column-init : goal.loop-column-init
loop-column-init c = record {
  text = columns_start c.args.bytes.now.items (row_lines c.args.text.now) 8;
  within = λ some. absurd (omega arith);
}

pub returns-in_err-push_column-clause-full : goal.returns-in_err-push_column-clause-full
returns-in_err-push_column-clause-full c =
    let old = c.args.bytes.now.items in
    let lines = row_lines c.args.text.now in
    let text = columns_text lines 8 in
    let fault = c.in_err-push_column.field-0.0 in
    handed_on (IsFull old text) c.from_residual.result fault c.from_residual.ensures.1
    (range_full (λ (k : ℕ). with_line_end (line_of_column k lines)) old text c.loop-column.bytes.items c.loop-column.column 8 fault c.loop-column-test.true
    c.loop-column.invariant.text c.in_err-push_column.ensures.full)

pub loop-column-preserved : goal.loop-column-preserved
loop-column-preserved c = record {
  text =
      range_pushed (λ (k : ℕ). with_line_end (line_of_column k (row_lines c.args.text.now))) _ c.loop-column.bytes.items _ c.loop-column.column 8
      c.loop-column-test.true c.loop-column.invariant.text c.in_ok-push_column.ensures.pushed;
  within = λ _. c.in_ok-push_column.ensures.within;
}

pub returns-clause-pushed : goal.returns-clause-pushed
returns-clause-pushed c =
    range_all (λ (k : ℕ). with_line_end (line_of_column k (row_lines c.args.text.now))) _ c.loop-column.bytes.items c.loop-column.column 8
    (omega arith) c.loop-column.invariant.text

pub returns-clause-within : goal.returns-clause-within
returns-clause-within c = c.loop-column.invariant.within (omega arith)
