use Rattle.std.proofs.Common.{arith}
use Rattle.std.proofs.lemmas.List.{length_push}
use Rattle.fc_text.specs.Line.{line_of, without_return}
use Rattle.fc_text.proofs.PassLemmas.{left_first, lines_few, pass_next, pass_room}
use Rattle.fc_text.proofs.spots.nth_line.Goals as goal

pub overflow_add-count : goal.overflow_add-count
overflow_add-count c =
    let most = pass_room _ _ _ _ _ _ c.loop-line.invariant (left_first c.loop-line.line-iterator.rest.now c.next.new.self.rest.now c.in-Some.line.now c.in-Some.ensures.steps) in
    let few = lines_few c.args.text.now in
    omega (arith, most, few)

pub loop-line-preserved : goal.loop-line-preserved
loop-line-preserved c =
    pass_next _ _ _ _ _ _ _ c.loop-line.invariant (left_first c.loop-line.line-iterator.rest.now c.next.new.self.rest.now c.in-Some.line.now c.in-Some.ensures.steps)
    (λ front size so less. let h = c.if-count-number in omega (arith, so less, length_push front (line_of (without_return c.in-Some.line.now))))
