use Rattle.std.proofs.Common.{sym, ◌∙◌}
use Rattle.fc_checker.proofs.StepLemmas.{listed_steps}
use Rattle.fc_checker.proofs.certificate_checks.record_steps_hold.Goals as goal

pub returns-in-None : goal.returns-in-None
returns-in-None g c = record {
  value = λ same. listed_steps (g.G.Game.game c.args.game.now) c.args.certificate.now c.args.position.now c.args.key.now c.args.cost
      c.steps_hold.result (sym c.level.ensures.value ∙ c.in-None.is) c.steps_hold.ensures.value same;
}
