use Rattle.std.proofs.Common.{◌∷◌, ◌++◌, [], arith}
use Rattle.fc_text.specs.Line.{line_of, without_return}
use Rattle.fc_text.specs.Spot.{IsLastOf, NoneHasCard}
use Rattle.fc_text.proofs.PassLemmas.{cases_then, left_first, left_none, lines_few, none_case, pass_all, pass_next, pass_room, some_case}
use Rattle.fc_text.proofs.SpotLemmas.{card_push, last_line_here, last_line_push}
use Rattle.fc_text.proofs.spots.last_spot_of.Goals as goal

pub overflow_add-number : goal.overflow_add-number
overflow_add-number c =
    let most = pass_room _ _ _ _ _ _ c.loop-line.invariant (left_first c.loop-line.line-iterator.rest.now c.next.new.self.rest.now c.in-Some.line.now c.in-Some.ensures.steps) in
    let few = lines_few c.args.text.now in
    omega (arith, most, few)

pub loop-line-preserved-in-Some-last_in_line : goal.loop-line-preserved-in-Some-last_in_line
loop-line-preserved-in-Some-last_in_line c =
    pass_next _ _ _ _ _ _ _ c.loop-line.invariant (left_first c.loop-line.line-iterator.rest.now c.next.new.self.rest.now c.in-Some.line.now c.in-Some.ensures.steps)
    (λ front size so. last_line_here c.args.card front (line_of (without_return c.in-Some.line.now)) c.loop-line.number c.in-Some-last_in_line.place
    c.in-Some-last_in_line.token.now size c.in-Some-last_in_line.ensures.last)

pub loop-line-preserved : goal.loop-line-preserved
loop-line-preserved c =
    let line = line_of (without_return c.in-Some.line.now) in
    pass_next _ _ _ _ _ _ _ c.loop-line.invariant (left_first c.loop-line.line-iterator.rest.now c.next.new.self.rest.now c.in-Some.line.now c.in-Some.ensures.steps)
    (λ front size so. cases_then c.loop-line.last (NoneHasCard c.args.card front) (NoneHasCard c.args.card (front ++ line ∷ []))
    (λ spot. IsLastOf front c.args.card spot.line spot.place spot.token.now)
    (λ spot. IsLastOf (front ++ line ∷ []) c.args.card spot.line spot.place spot.token.now) so
    (λ none. card_push c.args.card front line none c.in_default.ensures.none)
    (λ spot p. last_line_push c.args.card front line spot.line spot.place spot.token.now p c.in_default.ensures.none))

pub returns-clause-spot : goal.returns-clause-spot
returns-clause-spot c =
    some_case c.loop-line.last _ _ (pass_all _ _ _ _ c.loop-line.invariant (left_none c.loop-line.line-iterator.rest.now c.in-None.ensures.steps.0)).0

pub returns-clause-none : goal.returns-clause-none
returns-clause-none c =
    none_case c.loop-line.last _ _ (pass_all _ _ _ _ c.loop-line.invariant (left_none c.loop-line.line-iterator.rest.now c.in-None.ensures.steps.0)).0
