use Rattle.std.proofs.Common.{◌≡◌, ◌-◌, ◌<◌, ◌≤◌, ◌++◌, length}
use Rattle.std.specs.List.{flat_map, range_with_len}
use Rattle.fc_cards.specs.Texts.{with_line_end}
use Rattle.fc_row_text.specs.RowText.{line_of_column, columns_text, most_bytes, row_lines}
use Rattle.fc_row_text.proofs.column_lines.push_columns.Given as goal

-- the columns from this one on are left
abbrev pub invariant-loop-column : goal.invariant-loop-column
invariant-loop-column l = record {
  text : l.bytes.items ++ flat_map (λ k. with_line_end (line_of_column k (row_lines l.text))) (range_with_len l.column (8 - l.column))
      ≡ l.fn.bytes.items ++ columns_text (row_lines l.text) 8;
  within : 0 < l.column → length l.bytes.items ≤ most_bytes;
}
