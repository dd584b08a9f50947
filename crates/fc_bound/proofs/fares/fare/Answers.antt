use Rattle.std.proofs.Common.{ap, subst, arith}
use Rattle.fc_position.specs.Board.{board_without}
use Rattle.fc_bound.specs.Bound.{PlayableIsHeldBack}
use Rattle.fc_bound.specs.Knots.{knot_bound}
use Rattle.fc_bound.proofs.FareLemmas.{fare_cell, fare_held}
use Rattle.fc_bound.proofs.fares.fare.Goals as goal

pub returns-in-Column-clause-fare : goal.returns-in-Column-clause-fare
returns-in-Column-clause-fare c =
    let b = c.args.position.now in
    let at = c.in-Column in
    let held = subst (PlayableIsHeldBack b) at.is (c.is_held_back-held.ensures.value.0 c.if-held.true) in
    let without = ap (λ from. knot_bound (board_without b from)) at.is in
    omega (arith, fare_held b at.field-0 c.is_held_back-held.ensures.whole held, without)

pub returns-in-Cell-clause-fare : goal.returns-in-Cell-clause-fare
returns-in-Cell-clause-fare c =
    let b = c.args.position.now in
    let at = c.in-Cell in
    let without = ap (λ from. knot_bound (board_without b from)) at.is in
    omega (arith, fare_cell b at.field-0, without)
