use Rattle.std.proofs.Common.{ap, arith}
use Rattle.fc_text.proofs.LineLoop.{lines_all, lines_fault, lines_next, lines_none, lines_room}
use Rattle.fc_text.proofs.boards.read_lines.Goals as goal

pub loop-line-init : goal.loop-line-init
loop-line-init c =
    lines_none c.args.most c.args.text.now c.into_iter-line-iterator.result.rest.now c.new-draft.result
    (ap (λ i. i.rest.now) c.into_iter-line-iterator.ensures.into_iter_gives) c.new-draft.ensures.none c.new-draft.ensures.tally

pub overflow_add-number : goal.overflow_add-number
overflow_add-number c =
    let most = lines_room c.args.most c.args.text.now c.loop-line.line-iterator.rest.now c.next.new.self.rest.now c.in-Some.line.now c.loop-line.number c.loop-line.draft c.loop-line.invariant
    c.in-Some.ensures.steps c.requires.short in
    omega (arith, most)

pub add_line-requires-clause-tally : goal.add_line-requires-clause-tally
add_line-requires-clause-tally c = c.loop-line.invariant.tally

pub returns-in-Err-clause-fault : goal.returns-in-Err-clause-fault
returns-in-Err-clause-fault c =
    lines_fault c.args.most c.args.text.now c.loop-line.line-iterator.rest.now c.next.new.self.rest.now c.in-Some.line.now c.without_return.result.now c.loop-line.number c.loop-line.draft c.in-Err.fault c.loop-line.invariant
    c.in-Some.ensures.steps c.without_return.ensures c.in-Err.ensures.fault

pub loop-line-preserved : goal.loop-line-preserved
loop-line-preserved c =
    lines_next c.args.most c.args.text.now c.loop-line.line-iterator.rest.now c.next.new.self.rest.now c.in-Some.line.now c.without_return.result.now c.loop-line.number c.loop-line.draft c.add_line.new.self c.loop-line.invariant
    c.in-Some.ensures.steps c.without_return.ensures c.in_default.ensures.read c.in_default.ensures.sound c.in_default.ensures.tally

pub returns-clause-read : goal.returns-clause-read
returns-clause-read c =
    (lines_all c.args.most c.args.text.now c.loop-line.line-iterator.rest.now c.loop-line.number c.loop-line.draft c.loop-line.invariant c.in-None.ensures.steps.0).0

pub returns-clause-sound : goal.returns-clause-sound
returns-clause-sound c =
    (lines_all c.args.most c.args.text.now c.loop-line.line-iterator.rest.now c.loop-line.number c.loop-line.draft c.loop-line.invariant c.in-None.ensures.steps.0).1

pub returns-clause-tally : goal.returns-clause-tally
returns-clause-tally c = c.loop-line.invariant.tally
