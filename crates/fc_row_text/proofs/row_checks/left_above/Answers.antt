use Rattle.std.proofs.Common.{sym, ◌∙◌, arith}
use Rattle.fc_row_text.specs.Lines.{row_line_of}
use Rattle.fc_row_text.proofs.FaultLemmas.{above_next, above_none}
use Rattle.fc_row_text.proofs.row_checks.left_above.Goals as goal

pub loop-column-preserved : goal.loop-column-preserved
loop-column-preserved c =
    above_next c.args.left.now (row_line_of c.args.told.now) c.loop-column.column 8 c.left_at-above.result _ c.loop-column-test.true c.left_at-above.ensures
    (sym c.is_some.ensures ∙ c.if-is_some.false) c.loop-column.invariant

pub returns : goal.returns
returns c = above_none c.args.left.now (row_line_of c.args.told.now) c.loop-column.column 8 _ (omega arith) c.loop-column.invariant
