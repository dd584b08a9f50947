use Rattle.std.proofs.Common.{ℕ, ◌++◌, length, map, sym, ◌∙◌, ap, arith}
use Rattle.std.specs.List.{flat_map}
use Rattle.fc_position.specs.Board.{board_of}
use Rattle.fc_canonical.specs.Key.{column_bytes, board_bytes}
use Rattle.fc_canonical.specs.Order.{cell_byte}
use Rattle.fc_canonical.proofs.KeyLemmas.{small_cells, columns_hold}
use Rattle.fc_canonical.proofs.ReadLemmas.{board_counts, board_cells, board_columns, counts_most, spelled_parts, no_position}
use Rattle.std.proofs.lemmas.List.{length-map, length-drop, length-append}
use Rattle.arrayvec.specs.ArrayVec.{ArrayVec}
use Rattle.fc_canonical.proofs.readers.read_position.Goals as goal

pub returns-in_err-counts-clause-refused : goal.returns-in_err-counts-clause-refused
returns-in_err-counts-clause-refused c =
    rw c.from_residual.ensures
    (λ b rest p e. c.in_err-counts.ensures.refused b.homes (map cell_byte b.cells ++ (flat_map column_bytes b.columns ++ rest)) p.homes
    (counts_most b p) (board_counts c.args.bytes.now b rest e))

pub returns-in_err-cells-clause-refused : goal.returns-in_err-cells-clause-refused
returns-in_err-cells-clause-refused c =
    rw c.from_residual-in_err-cells.ensures
    (λ b rest p e. c.in_err-cells.ensures.refused b.cells (flat_map column_bytes b.columns ++ rest) p.cells
    (small_cells b p) (c.in_ok-from_cells.ensures.found.2 ∙ board_cells c.args.bytes.now b rest p.homes e))

pub returns-in_err-columns-clause-refused : goal.returns-in_err-columns-clause-refused
returns-in_err-columns-clause-refused c =
    rw c.from_residual-in_err-columns.ensures
    (λ b rest p e. c.in_err-columns.ensures.refused b.columns rest p.columns
    (columns_hold b p) (c.in_ok-from_columns.ensures.found.2 ∙ board_columns c.args.bytes.now b rest p e))

pub returns-in-Ok-clause-read : goal.returns-in-Ok-clause-read
returns-in-Ok-clause-read c =
    let x = board_of c.in_ok-columns.columns c.in_ok-cells.cells c.in_ok-counts.counts in
    let both = spelled_parts c.args.bytes.now x c.in_ok-counts.ensures.read.2.0 c.in_ok-cells.ensures.read.2.0 c.in_ok-columns.rest.now
    c.in_ok-counts.ensures.read.0 c.in_ok-cells.ensures.read.0 c.in_ok-counts.ensures.read.2.1
    (sym c.in_ok-from_cells.ensures.found.2 ∙ c.in_ok-cells.ensures.read.2.1)
    (sym c.in_ok-from_columns.ensures.found.2 ∙ c.in_ok-columns.ensures.read.1) in
    let same = c.in-Ok.ensures.position in (
      c.in-Ok.ensures.whole,
      (c.in_ok-columns.rest.now, both.0 ∙ ap (λ b. board_bytes b ++ c.in_ok-columns.rest.now) (sym same)),
      both.1 ∙ ap (λ b. length (board_bytes b)) (sym same),
    )

pub returns-in-Err-clause-refused : goal.returns-in-Err-clause-refused
returns-in-Err-clause-refused c =
    let x = board_of c.in_ok-columns.columns c.in_ok-cells.cells c.in_ok-counts.counts in
    let both = spelled_parts c.args.bytes.now x c.in_ok-counts.ensures.read.2.0 c.in_ok-cells.ensures.read.2.0 c.in_ok-columns.rest.now
    c.in_ok-counts.ensures.read.0 c.in_ok-cells.ensures.read.0 c.in_ok-counts.ensures.read.2.1
    (sym c.in_ok-from_cells.ensures.found.2 ∙ c.in_ok-cells.ensures.read.2.1)
    (sym c.in_ok-from_columns.ensures.found.2 ∙ c.in_ok-columns.ensures.read.1) in
    no_position c.args.bytes.now x c.in_ok-columns.rest.now c.in-Err.field-0
    (record {
      columns = length-map c.in_ok-columns.columns (λ (v : ArrayVec ℕ). v.items) ∙ c.in_ok-columns.ensures.read.0;
      cells = c.in_ok-cells.ensures.read.0;
      homes = c.in_ok-counts.ensures.read.0;
      small = c.in_ok-cells.ensures.read.1;
    }) both.0 c.in-Err.ensures.fault

pub overflow_sub-result : goal.overflow_sub-result
overflow_sub-result c =
    omega (
      arith,
      length-drop 8 c.args.bytes.now,
      ap length c.in_ok-from_columns.ensures.found.2,
      ap length c.in_ok-columns.ensures.read.1,
      length-append (flat_map column_bytes (map (λ (v : ArrayVec ℕ). v.items) c.in_ok-columns.columns)) c.in_ok-columns.rest.now,
    )
