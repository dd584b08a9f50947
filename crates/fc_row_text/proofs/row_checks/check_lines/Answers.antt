use Rattle.std.proofs.Common.{◌≡◌, Some, ◌+◌, length, ◌∙◌, ap, arith}
use Rattle.fc_row_text.specs.RowText.{first_fault, none_left, row_lines}
use Rattle.fc_row_text.specs.Lines.{lines_left}
use Rattle.fc_row_text.proofs.FaultLemmas.{fault_here, fault_next, fault_none, told_few}
use Rattle.fc_row_text.proofs.PushLemmas.{handed_on}
use Rattle.fc_row_text.proofs.row_checks.check_lines.Goals as goal

pub loop-told-init : goal.loop-told-init
loop-told-init c =
    let start = ap lines_left c.into_iter-told-iterator.ensures.into_iter_gives ∙ c.new-told-items.ensures.lines in
    record {
      fault = ap (first_fault none_left 1) start;
      number = ap (λ ls. 1 + length ls) start;
    }

pub returns-in_err-check_line-clause-fault : goal.returns-in_err-check_line-clause-fault
returns-in_err-check_line-clause-fault c =
    let fault = c.in_err-check_line.field-0.0 in
    handed_on (λ f. first_fault none_left 1 (row_lines c.args.text.now) ≡ Some f) c.from_residual.result fault c.from_residual.ensures.1
    (fault_here _ c.loop-told.left c.loop-told.number _ _ _ fault c.in-Some.ensures.steps c.in_err-check_line.ensures.fault c.loop-told.invariant.fault)

pub overflow_add-number : goal.overflow_add-number
overflow_add-number c =
    let more = ap length c.in-Some.ensures.steps in
    omega (arith, more, c.loop-told.invariant.number, told_few c.args.text.now, c.requires.short)

pub loop-told-preserved : goal.loop-told-preserved
loop-told-preserved c =
    let more = ap length c.in-Some.ensures.steps in
    record {
      fault =
          fault_next _ _ c.loop-told.left c.loop-told.number _ _ _ c.in-Some.ensures.steps c.in_ok-check_line.ensures.sound c.left_below-left.ensures
          c.loop-told.invariant.fault;
      number = omega (arith, more, c.loop-told.invariant.number);
    }

pub returns-clause-sound : goal.returns-clause-sound
returns-clause-sound c = fault_none _ c.loop-told.left c.loop-told.number _ c.in-None.ensures.steps.0 c.loop-told.invariant.fault
