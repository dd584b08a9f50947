use Rattle.std.proofs.Common.{◌+◌, ◌*◌, min, ◌∙◌, ap, arith}
use Rattle.std.proofs.lemmas.Bool.{MatchBool-at_true}
use Rattle.fc_typed.proofs.CountLemmas.{number_none, number_digit, number_underscore, number_ends, number_all}
use Rattle.fc_typed.proofs.counts.read_number.Goals as goal
use Rattle.fc_typed.proofs.counts.read_number.Goals.{then-is_ascii_digit, else-is_ascii_digit+else-byte-ne95}

pub loop-byte-init : goal.loop-byte-init
loop-byte-init c =
    number_none 4294967295 c.args.text.now c.in_ok-first.field-0.now c.in_ok-first.ensures.value
    (MatchBool-at_true _ _ c.if-not-is_ascii_digit.false c.is_ascii_digit.ensures.cases)

pub returns-then-byte-ne95-clause-none : goal.returns-then-byte-ne95-clause-none
returns-then-byte-ne95-clause-none c =
    number_ends 4294967295 c.args.text.now c.loop-byte.byte-index c.loop-byte.value (omega arith) c.loop-byte.invariant (grind arith) (omega arith)

pub loop-byte-preserved : goal.loop-byte-preserved
loop-byte-preserved c = elim c.if-is_ascii_digit.branch [
  | then-is_ascii_digit w ↦
      number_digit 4294967295 c.args.text.now c.loop-byte.byte-index c.loop-byte.value _ (omega arith) c.loop-byte.invariant
      (MatchBool-at_true _ _ w.if-is_ascii_digit.true c.is_ascii_digit-in-loop-byte.ensures.cases)
      (w.value-is ∙ w.saturating_add-value.ensures ∙ ap (λ k. min (k + w.from.result) 4294967295) w.saturating_mul.ensures
      ∙ ap (λ k. min (min (c.loop-byte.value * 10) 4294967295 + k) 4294967295) w.from.ensures)
  | else-is_ascii_digit+else-byte-ne95 w ↦
      number_underscore 4294967295 c.args.text.now c.loop-byte.byte-index c.loop-byte.value _ (omega arith) c.loop-byte.invariant
      w.if-byte-ne95.false w.value-is
]

pub returns-clause-value : goal.returns-clause-value
returns-clause-value c =
    number_all 4294967295 c.args.text.now c.loop-byte.byte-index c.loop-byte.value (omega arith) c.loop-byte.invariant
