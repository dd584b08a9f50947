use Rattle.fc_checker.proofs.FaultLemmas.{run_more}
use Rattle.fc_checker.proofs.certificate_checks.replay.Goals as goal

pub loop-i-preserved : goal.loop-i-preserved
loop-i-preserved g c =
    run_more (g.G.Game.game c.args.game.now) c.args.position c.loop-i.board c.apply.new.position c.args.certificate.now.moves c.loop-i.i
    c.move_at-m.result c.loop-i.invariant c.move_at-m.ensures.value c.apply.ensures.step
