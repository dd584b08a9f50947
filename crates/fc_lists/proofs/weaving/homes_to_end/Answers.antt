use Rattle.std.proofs.Common.{sym, subst, arith}
use Rattle.std.specs.Prelude.{All}
use Rattle.fc_moves.specs.Run.{Run}
use Rattle.fc_moves.proofs.StepLemmas.{step_keeps}
use Rattle.fc_lists.specs.Weaving.{IsMoveHome}
use Rattle.fc_lists.proofs.WeaveLemmas.{home_more, homes_on}
use Rattle.fc_lists.proofs.weaving.homes_to_end.Goals as goal

pub loop-home-smaller : goal.loop-home-smaller
loop-home-smaller g c =
    let more = home_more _ _ _ _ c.loop-home.invariant.position c.in-Some.ensures.home.0 c.apply.ensures.step in omega (arith, more.0, more.1)

pub loop-home-preserved : goal.loop-home-preserved
loop-home-preserved g c =
    let game = g.G.Game.game c.args.game.now in
    let on = homes_on game c.args.position.now c.loop-home.board c.apply.new.position c.loop-home.homes.items c.in-Some.home c.loop-home.invariant.home c.loop-home.invariant.run
    c.in-Some.ensures.home.0 c.apply.ensures.step in
    record {
      position = step_keeps _ _ _ _ c.loop-home.invariant.position c.apply.ensures.step;
      home = subst (All IsMoveHome) (sym c.in_ok-push.ensures.items) on.0;
      run = subst (λ l. Run game c.args.position.now l c.apply.new.position) (sym c.in_ok-push.ensures.items) on.1;
    }
