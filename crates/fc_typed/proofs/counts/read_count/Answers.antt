use Rattle.std.proofs.Common.{◌*◌, ◌^◌, refl}
use Rattle.fc_typed.proofs.CountLemmas.{no_number, no_unit, front_back}
use Rattle.fc_typed.proofs.counts.read_count.Goals as goal

pub returns-in_err-value-clause-none : goal.returns-in_err-value-clause-none
returns-in_err-value-clause-none c =
    let len = c.number_len.ensures in
    rw c.from_residual.ensures (no_number c.args.text.now c.split_at.result.0.now c.number_len.result
    (record { within = len.within; number = len.number; unit = len.unit }) c.split_at.ensures.front c.in_err-value.ensures.none)

pub returns-in_err-zeros-clause-none : goal.returns-in_err-zeros-clause-none
returns-in_err-zeros-clause-none c =
    let len = c.number_len.ensures in
    rw c.from_residual-in_err-zeros.ensures (no_unit c.args.text.now c.split_at.result.1.now c.number_len.result
    (record { within = len.within; number = len.number; unit = len.unit }) c.split_at.ensures.back c.in_err-zeros.ensures.none)

pub returns-clause-value : goal.returns-clause-value
returns-clause-value c =
    let value = c.in_ok-value.ensures.value in
    let unit = c.in_ok-zeros.ensures.value in (
      value.0 * 10 ^ unit.0,
      (
        c.split_at.result.0.now,
        c.split_at.result.1.now,
        value.0,
        unit.0,
        front_back c.args.text.now _ _ c.number_len.result c.split_at.ensures.front c.split_at.ensures.back,
        value.1,
        unit.1,
        refl,
      ),
      c.with_zeros.ensures value.0 unit.0 value.2 unit.2,
    )
