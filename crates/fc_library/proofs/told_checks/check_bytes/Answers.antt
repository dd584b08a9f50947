use Rattle.std.proofs.Common.{refl, subst}
use Rattle.fc_moves.specs.GameRules.{GameRules}
use Rattle.fc_checker.specs.Check.{IsCheckFault}
use Rattle.fc_library.proofs.told_checks.check_bytes.Goals as goal

pub returns-in-Err-check-clause-refused : goal.returns-in-Err-check-clause-refused
returns-in-Err-check-clause-refused c =
    let P : GameRules → Type 0 = λ g. IsCheckFault g c.in-Ok.start c.args.bytes.now c.in-Err-check.fault in (
      c.in-Ok.start,
      record { named = c.in-Some.ensures.named.0 refl; spelled = c.in-Ok.ensures.read; short = c.if-bytes-gt-LONGEST_CERTIFICATE.false },
      subst P c.in-Some.ensures.value c.in-Err-check.ensures.fault,
    )
