use Rattle.std.proofs.Common.{inl, inr, ◌∷◌, sym, subst, arith}
use Rattle.std.proofs.lemmas.Bool.{false≢true}
use Rattle.fc_moves.proofs.StepLemmas.{step_keeps}
use Rattle.fc_lists.specs.Weaving.{Weaves, sends_home}
use Rattle.fc_lists.proofs.WeaveLemmas.{home_more}
use Rattle.fc_lists.proofs.weaving.send_home_for.Goals as goal

pub loop-board-smaller : goal.loop-board-smaller
loop-board-smaller g c =
    let more = home_more _ _ _ _ c.loop-board.invariant.position c.in-Some.ensures.home.0 c.apply.ensures.step in omega (arith, more.0, more.1)

pub loop-board-preserved : goal.loop-board-preserved
loop-board-preserved g c = record {
  position = step_keeps _ _ _ _ c.loop-board.invariant.position c.apply.ensures.step;
  woven = λ b list rest listed before. subst (λ l. Weaves (g.G.Game.game c.args.game.now) b list (c.args.e.now ∷ rest) (record { moves = l; listed = listed }) c.apply.new.position)
      (sym c.in_ok-push.ensures.items)
      (sends_home _ _ _ _ _ _ (c.loop-board.invariant.woven b list rest listed before) (λ allowed. false≢true (c.loop-board-test.ensures.value.1 (inr allowed)))
      (λ passed. false≢true (c.loop-board-test.ensures.value.1 (inl passed))) c.in-Some.ensures.way c.apply.ensures.step);
}
