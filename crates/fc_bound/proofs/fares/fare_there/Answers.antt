use Rattle.std.proofs.Common.{◌∙◌, sym, ap, arith}
use Rattle.fc_position.specs.Board.{board_without}
use Rattle.fc_bound.specs.Knots.{knot_bound}
use Rattle.fc_bound.proofs.FareLemmas.{column_held, fare_cell, fare_held, held_there}
use Rattle.fc_bound.proofs.HeldLemmas.{step_position}
use Rattle.fc_bound.proofs.fares.fare_there.Goals as goal

pub returns-in-Column-clause-fare : goal.returns-in-Column-clause-fare
returns-in-Column-clause-fare c g z m step card to =
    let b = c.args.position.now in
    let at = c.in-Column in
    let p = c.cell-cell.ensures.whole in
    let inside = (column_held g b z m at.i c.args.card step p card (to ∙ at.is)).0 in
    let held = held_there g b z m at.i c.args.card step p card (to ∙ at.is) (sym (c.is_above.ensures.value inside) ∙ c.if-is_above.true) in
    let without = ap (λ there. knot_bound (board_without z there)) at.is in
    omega (arith, fare_held z at.i (step_position g b z m p step) held, without)

pub returns-in-Cell-clause-fare : goal.returns-in-Cell-clause-fare
returns-in-Cell-clause-fare c g z m step card to =
    let at = c.in-Cell in
    let without = ap (λ there. knot_bound (board_without z there)) at.is in
    omega (arith, fare_cell z at.field-0, without)
