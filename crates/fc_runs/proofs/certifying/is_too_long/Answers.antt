use Rattle.std.proofs.Common.{◌≤◌, length, sym, subst, arith}
use Rattle.std.specs.Prelude.{IfSome}
use Rattle.fc_cert.proofs.LengthLemmas.{written_short}
use Rattle.fc_runs.proofs.certifying.is_too_long.Goals as goal

pub returns-then-len-le-FEW_CLASSES-clause-short : goal.returns-then-len-le-FEW_CLASSES-clause-short
returns-then-len-le-FEW_CLASSES-clause-short c same g b backed few content is =
    let size = c.len.ensures.value in
    let within = c.if-len-le-FEW_CLASSES.true in
    let small : length c.in-Some.table.rows ≤ 14000000 = omega (arith, size, within) in
    written_short g b c.args.answer.now content backed
    (subst (λ o. IfSome o (λ table. length table.rows ≤ 14000000)) (sym c.in-Some.is) small) few is
