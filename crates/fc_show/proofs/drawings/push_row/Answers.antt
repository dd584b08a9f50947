use Rattle.std.proofs.Common.{◌++◌, ◌∙◌, ap, arith}
use Rattle.std.specs.Prelude.{slice_get}
use Rattle.fc_show.specs.Drawing.{place_entry}
use Rattle.fc_show.proofs.DrawingLemmas.{row_more}
use Rattle.fc_show.proofs.drawings.push_row.Goals as goal

pub loop-column-preserved : goal.loop-column-preserved
loop-column-preserved c =
    let whole = c.column.ensures.whole in
    let columns = c.args.position.now.columns in
    let so_far = c.loop-column.text.items in
    let entry = ap (λ cards. so_far ++ place_entry c.args.style.now (slice_get cards c.args.i)) c.column.ensures.value in
    record {
      text =
          row_more _ _ _ c.args.style.now columns c.args.i c.loop-column.column (omega (arith, whole.columns))
          c.loop-column.invariant.text (c.push_place.ensures.text ∙ entry);
      within = omega arith;
      whole = λ _. whole;
    }
