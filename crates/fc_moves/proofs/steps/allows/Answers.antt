use Rattle.std.proofs.Common.{refl, sym}
use Rattle.fc_moves.proofs.StepLemmas.{allows_by}
use Rattle.fc_moves.proofs.steps.allows.Goals as goal

pub returns-then-joins : goal.returns-then-joins
returns-then-joins g c = record {
  value =
      allows_by (g.G.Game.game c.args.game.now) c.args.position.now c.args.m c.in-Some.card c.takes.result (sym c.in-Some.ensures.value) (c.if-joins.ensures.0 refl) c.takes.ensures;
}
