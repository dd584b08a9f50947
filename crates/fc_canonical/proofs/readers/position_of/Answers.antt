use Rattle.std.proofs.Common.{ℕ, ◌++◌, map, sym, ◌∙◌, subst}
use Rattle.std.specs.List.{flat_map}
use Rattle.std.proofs.lemmas.List.{length-map}
use Rattle.std.proofs.lemmas.Option.{MatchOption-at_some}
use Rattle.arrayvec.specs.ArrayVec.{ArrayVec}
use Rattle.fc_position.specs.Board.{board_of}
use Rattle.fc_position.specs.Position.{IsPosition}
use Rattle.fc_canonical.specs.Key.{column_bytes}
use Rattle.fc_canonical.specs.Order.{cell_byte}
use Rattle.fc_canonical.proofs.KeyLemmas.{small_cells, columns_hold}
use Rattle.fc_canonical.proofs.ReadLemmas.{board_counts, board_cells, board_columns, counts_most, surely, spelled_position}
use Rattle.fc_canonical.proofs.readers.position_of.Goals as goal

pub unwrap-counts-requires : goal.unwrap-counts-requires
unwrap-counts-requires c =
    let (b, p, (rest, e)) = c.requires.spelled in
    surely c.read_counts.result _ c.read_counts.ensures.refused
    (λ none. none b.homes (map cell_byte b.cells ++ (flat_map column_bytes b.columns ++ rest)) p.homes (counts_most b p)
    (board_counts c.args.bytes.now b rest e))

pub unwrap-cells-requires : goal.unwrap-cells-requires
unwrap-cells-requires c =
    let (b, p, (rest, e)) = c.requires.spelled in
    surely c.read_cells.result _ c.read_cells.ensures.refused
    (λ none. none b.cells (flat_map column_bytes b.columns ++ rest) p.cells (small_cells b p)
    (c.split_at.ensures.back ∙ board_cells c.args.bytes.now b rest p.homes e))

pub fill_columns-requires-clause-spelled : goal.fill_columns-requires-clause-spelled
fill_columns-requires-clause-spelled c =
    let (b, p, (rest, e)) = c.requires.spelled in (
      b.columns,
      rest,
      p.columns,
      columns_hold b p,
      c.split_at-2.ensures.back ∙ board_columns c.args.bytes.now b rest p e,
    )

pub of_parts-requires : goal.of_parts-requires
of_parts-requires c =
    let counts = MatchOption-at_some _ _ c.unwrap-counts.result c.unwrap-counts.ensures c.read_counts.ensures.read in
    let cells = MatchOption-at_some _ _ c.unwrap-cells.result c.unwrap-cells.ensures c.read_cells.ensures.read in
    let columns = c.fill_columns.ensures.parts in
    let (b, p, (rest, e)) = c.requires.spelled in
    record {
      whole = subst IsPosition
          (sym
          (spelled_position c.args.bytes.now (board_of c.fill_columns.new.columns c.unwrap-cells.result c.unwrap-counts.result)
          counts.2.0 cells.2.0 columns.0
          (record {
            columns = length-map c.fill_columns.new.columns (λ (v : ArrayVec ℕ). v.items) ∙ c.fill_columns.ensures.count;
            cells = cells.0;
            homes = counts.0;
            small = cells.1;
          })
          counts.2.1 (sym c.split_at.ensures.back ∙ cells.2.1) (sym c.split_at-2.ensures.back ∙ columns.1) b rest p e)) p;
    }

pub returns-clause-value : goal.returns-clause-value
returns-clause-value c =
    let counts = MatchOption-at_some _ _ c.unwrap-counts.result c.unwrap-counts.ensures c.read_counts.ensures.read in
    let cells = MatchOption-at_some _ _ c.unwrap-cells.result c.unwrap-cells.ensures c.read_cells.ensures.read in
    let columns = c.fill_columns.ensures.parts in
    λ b p (rest, e). c.of_parts.ensures.value
    ∙ spelled_position c.args.bytes.now (board_of c.fill_columns.new.columns c.unwrap-cells.result c.unwrap-counts.result)
    counts.2.0 cells.2.0 columns.0
    (record {
      columns = length-map c.fill_columns.new.columns (λ (v : ArrayVec ℕ). v.items) ∙ c.fill_columns.ensures.count;
      cells = cells.0;
      homes = counts.0;
      small = cells.1;
    })
    counts.2.1 (sym c.split_at.ensures.back ∙ cells.2.1) (sym c.split_at-2.ensures.back ∙ columns.1) b rest p e
