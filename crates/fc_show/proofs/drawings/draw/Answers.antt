use Rattle.std.proofs.Common.{arith}
use Rattle.fc_show.specs.Drawing.{height}
use Rattle.fc_show.proofs.DrawingLemmas.{rows_more}
use Rattle.fc_show.proofs.drawings.draw.Goals as goal

pub loop-i-preserved : goal.loop-i-preserved
loop-i-preserved c =
    let columns = c.args.position.now.columns in
    record {
      text =
          rows_more _ _ _ c.args.style.now columns c.loop-i.i (height columns) (omega arith)
          c.loop-i.invariant.text c.push_row.ensures.text;
      within = omega arith;
    }
