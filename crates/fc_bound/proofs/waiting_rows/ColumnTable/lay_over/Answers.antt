use Rattle.std.specs.List.{list_any}
use Rattle.fc_bound.specs.Bound.{is_above_lower}
use Rattle.fc_bound.specs.Rows.{stands_among}
use Rattle.fc_bound.proofs.FamilyRows.{stands_below}
use Rattle.fc_bound.proofs.OverLemmas.{held_stands}
use Rattle.fc_bound.proofs.OverTable.{held_still, marks_over, rows_over, still_stands}
use Rattle.fc_bound.proofs.waiting_rows.ColumnTable.lay_over.Goals as goal

pub fill_moved-marks-requires-clause-others : goal.fill_moved-marks-requires-clause-others
fill_moved-marks-requires-clause-others c =
    let (s, whole, table, but, moved) = c.requires.start in
    rows_over s c.args.position.now c.args.start.now c.args.self.now c.restore.new.rows c.args.before c.args.moved c.cell-cell.ensures.whole
    c.ranges.moved.fits table but moved c.restore.ensures.taken c.restore.ensures.kept

pub returns-clause-table : goal.returns-clause-table
returns-clause-table c =
    let (s, whole, table, but, moved) = c.requires.start in
    let b = c.args.position.now in
    let p = c.cell-cell.ensures.whole in
    let start = c.args.start.now in
    let now = c.fill_moved-marks in
    record {
      long = now.ensures.long;
      rows = now.ensures.rows;
      all = marks_over now.result.all start.marks.all c.args.moved (stands_among b.columns) (stands_among s.columns) c.ranges.moved.fits
          (λ d. stands_below s d whole) (λ d. still_stands s.columns b.columns c.args.moved d moved) now.ensures.all table.all;
      lasts = now.ensures.lasts;
      held = marks_over now.result.held start.marks.held c.args.moved (λ d. list_any (is_above_lower d) b.columns) (λ d. list_any (is_above_lower d) s.columns)
          c.ranges.moved.fits (λ d held. stands_below s d whole (held_stands s.columns d held)) (λ d. held_still s b c.args.moved d whole p moved)
          now.ensures.held table.held;
    }
