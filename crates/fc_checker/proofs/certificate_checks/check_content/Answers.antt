use Rattle.std.proofs.Common.{subst}
use Rattle.std.proofs.lemmas.Result.{IfErr-weaker, on_ok_weaker}
use Rattle.fc_home.proofs.RuleLemmas.{refuted}
use Rattle.fc_checker.specs.inner.Steps.{IsFaultOf, IsFaultOfRecords, SettledHolds}
use Rattle.fc_checker.proofs.FaultLemmas.{passed_on}
use Rattle.fc_checker.proofs.StepLemmas.{start_holds}
use Rattle.fc_checker.proofs.certificate_checks.check_content.Goals as goal

pub returns-in_err-check_moves-clause-fault : goal.returns-in_err-check_moves-clause-fault
returns-in_err-check_moves-clause-fault g c =
    let of = c.is_of_game.ensures.value.0 c.if-not-is_of_game.false in
    passed_on (IsFaultOf (g.G.Game.game c.args.game.now) c.args.position.now c.args.certificate.now) c.from_residual.result
    c.in_err-check_moves.field-0.0 c.from_residual.ensures.1 (
      c.in_err-check_moves.ensures.fault.0,
      λ bytes spells. c.in_err-check_moves.ensures.fault.1 bytes (record { spelled = spells; game = of }),
    )

pub returns-then-not-start_holds-clause-fault : goal.returns-then-not-start_holds-clause-fault
returns-then-not-start_holds-clause-fault g c =
    let rules = g.G.Game.game c.args.game.now in
    let content = c.args.certificate.now in
    let of = c.is_of_game.ensures.value.0 c.if-not-is_of_game.false in
    let wrong = subst (λ b. SettledHolds rules content b 0 → ⊥) c.copy-start.ensures.value
    (refuted c.start_holds.result c.start_holds.ensures.value c.if-not-start_holds.true) in (
      λ e. cc,
      λ bytes spells. (
        content,
        record { spelled = spells; game = of },
        c.in_ok-check_moves.ensures.moves,
        λ start. wrong ((start_holds rules content c.args.position.now).1 start),
      ),
    )

pub returns-clause-proof : goal.returns-clause-proof
returns-clause-proof g c =
    let rules = g.G.Game.game c.args.game.now in
    let content = c.args.certificate.now in
    let holds = subst (λ b. SettledHolds rules content b 0) c.copy-start.ensures.value
    (c.start_holds.ensures.value.0 c.if-not-start_holds.false) in
    on_ok_weaker c.check_records.result
    (λ records. record {
      game = c.is_of_game.ensures.value.0 c.if-not-is_of_game.false;
      moves = c.in_ok-check_moves.ensures.moves;
      start = (start_holds rules content c.args.position.now).0 holds;
      records = records;
    }) c.check_records.ensures.records

pub returns-clause-fault : goal.returns-clause-fault
returns-clause-fault g c =
    let rules = g.G.Game.game c.args.game.now in
    let content = c.args.certificate.now in
    let of = c.is_of_game.ensures.value.0 c.if-not-is_of_game.false in
    let holds = subst (λ b. SettledHolds rules content b 0) c.copy-start.ensures.value
    (c.start_holds.ensures.value.0 c.if-not-start_holds.false) in
    IfErr-weaker c.check_records.result (IsFaultOfRecords rules content) (IsFaultOf rules c.args.position.now content)
    (λ fault is. (
      is.0,
      λ bytes spells. is.1 c.args.position.now bytes
          (record {
            content = record { spelled = spells; game = of };
            moves = c.in_ok-check_moves.ensures.moves;
            start = (start_holds rules content c.args.position.now).0 holds;
          }),
    )) c.check_records.ensures.fault
