use Rattle.std.proofs.Common.{Ok, Err, refl}
use Rattle.fc_cert.specs.Reading.{ReadsHead}
use Rattle.fc_cert.proofs.FieldLemmas.{passed_on}
use Rattle.fc_cert.proofs.heads.read_head.Goals as goal

pub returns-in_err-form-clause-fault : goal.returns-in_err-form-clause-fault
returns-in_err-form-clause-fault c =
    let f = c.in_err-form.field-0.0 in
    passed_on (λ f. ReadsHead c.args.bytes.now (Err f)) c.from_residual.result f c.from_residual.ensures.1
    (Err f, c.in_err-form.ensures.fault, refl)

pub returns-in_err-game-clause-fault : goal.returns-in_err-game-clause-fault
returns-in_err-game-clause-fault c =
    let f = c.in_err-game.field-0.0 in
    let form = c.in_ok-form in
    passed_on (λ f. ReadsHead c.args.bytes.now (Err f)) c.from_residual-in_err-game.result f c.from_residual-in_err-game.ensures.1
    (Ok (form.form, form.rest.now), form.ensures.read, (Err f, c.in_err-game.ensures.fault, refl))

pub returns-in_err-rule-clause-fault : goal.returns-in_err-rule-clause-fault
returns-in_err-rule-clause-fault c =
    let f = c.in_err-rule.field-0.0 in
    let form = c.in_ok-form in
    let game = c.in_ok-game in
    passed_on (λ f. ReadsHead c.args.bytes.now (Err f)) c.from_residual-in_err-rule.result f c.from_residual-in_err-rule.ensures.1 (
      Ok (form.form, form.rest.now),
      form.ensures.read,
      (Ok ((game.game, game.cells), game.rest.now), game.ensures.read, (Err f, c.in_err-rule.ensures.fault, refl)),
    )

pub returns-in_err-bound-clause-fault : goal.returns-in_err-bound-clause-fault
returns-in_err-bound-clause-fault c =
    let f = c.in_err-bound.field-0.0 in
    let form = c.in_ok-form in
    let game = c.in_ok-game in
    let rule = c.in_ok-rule in
    passed_on (λ f. ReadsHead c.args.bytes.now (Err f)) c.from_residual-in_err-bound.result f c.from_residual-in_err-bound.ensures.1 (
      Ok (form.form, form.rest.now),
      form.ensures.read,
      (
        Ok ((game.game, game.cells), game.rest.now),
        game.ensures.read,
        (Ok (rule.rule, rule.rest.now), rule.ensures.read, (Err f, c.in_err-bound.ensures.fault, refl)),
      ),
    )

pub returns-in_err-kind-clause-fault : goal.returns-in_err-kind-clause-fault
returns-in_err-kind-clause-fault c =
    let f = c.in_err-kind.field-0.0 in
    let form = c.in_ok-form in
    let game = c.in_ok-game in
    let rule = c.in_ok-rule in
    let bound = c.in_ok-bound in
    passed_on (λ f. ReadsHead c.args.bytes.now (Err f)) c.from_residual-in_err-kind.result f c.from_residual-in_err-kind.ensures.1 (
      Ok (form.form, form.rest.now),
      form.ensures.read,
      (
        Ok ((game.game, game.cells), game.rest.now),
        game.ensures.read,
        (
          Ok (rule.rule, rule.rest.now),
          rule.ensures.read,
          (Ok (bound.bound, bound.rest.now), bound.ensures.read, (Err f, c.in_err-kind.ensures.fault, refl)),
        ),
      ),
    )

pub returns-clause-read : goal.returns-clause-read
returns-clause-read c =
    let form = c.in_ok-form in
    let game = c.in_ok-game in
    let rule = c.in_ok-rule in
    let bound = c.in_ok-bound in
    let claimed = c.in_ok-kind in (
      Ok (form.form, form.rest.now),
      form.ensures.read,
      (
        Ok ((game.game, game.cells), game.rest.now),
        game.ensures.read,
        (
          Ok (rule.rule, rule.rest.now),
          rule.ensures.read,
          (
            Ok (bound.bound, bound.rest.now),
            bound.ensures.read,
            (Ok ((claimed.kind, claimed.floor), claimed.rest.now), claimed.ensures.read, refl),
          ),
        ),
      ),
    )
