use Rattle.std.proofs.Common.{arith}
use Rattle.fc_text.specs.Line.{line_of, without_return}
use Rattle.fc_text.proofs.PassLemmas.{left_first, left_none, line_here, lines_few, pass_all, pass_next, pass_room}
use Rattle.fc_text.proofs.SpotLemmas.{card_push}
use Rattle.fc_text.proofs.spots.first_spot_of.Goals as goal

pub overflow_add-number : goal.overflow_add-number
overflow_add-number c =
    let most = pass_room _ _ _ _ _ _ c.loop-line.invariant (left_first c.loop-line.line-iterator.rest.now c.next.new.self.rest.now c.in-Some.line.now c.in-Some.ensures.steps) in
    let few = lines_few c.args.text.now in
    omega (arith, most, few)

pub returns-in-Some-first_in_line-clause-spot : goal.returns-in-Some-first_in_line-clause-spot
returns-in-Some-first_in_line-clause-spot c = (
  line_of (without_return c.in-Some.line.now),
  c.in-Some-first_in_line.ensures.first,
  line_here _ _ _ _ _ _ c.loop-line.invariant (left_first c.loop-line.line-iterator.rest.now c.next.new.self.rest.now c.in-Some.line.now c.in-Some.ensures.steps),
)

pub loop-line-preserved : goal.loop-line-preserved
loop-line-preserved c =
    pass_next _ _ _ _ _ _ _ c.loop-line.invariant (left_first c.loop-line.line-iterator.rest.now c.next.new.self.rest.now c.in-Some.line.now c.in-Some.ensures.steps)
    (λ front size so. card_push c.args.card front (line_of (without_return c.in-Some.line.now)) so c.in_default.ensures.none)

pub returns-clause-none : goal.returns-clause-none
returns-clause-none c =
    (pass_all _ _ _ _ c.loop-line.invariant (left_none c.loop-line.line-iterator.rest.now c.in-None.ensures.steps.0)).0
