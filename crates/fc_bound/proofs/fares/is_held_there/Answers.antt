use Rattle.std.proofs.Common.{◌∙◌, sym}
use Rattle.fc_bound.proofs.FareLemmas.{column_held, other_held}
use Rattle.fc_bound.proofs.fares.is_held_there.Goals as goal

pub returns-in-Column : goal.returns-in-Column
returns-in-Column c = record {
  value = λ g z m step card to away.
      let put = column_held g c.args.position.now z m c.in-Column.i c.args.card step c.cell-cell.ensures.whole card (to ∙ c.in-Column.is) in
      c.is_above.ensures.value put.0 ∙ sym put.1;
}

pub returns-in_default : goal.returns-in_default
returns-in_default c = record {
  value = λ g z m step card to away.
      other_held g c.args.position.now z m c.args.card step c.cell-cell.ensures.whole card (λ e. away (sym to ∙ e)) (λ j e. c.in_default.not-Column j (sym to ∙ e));
}
