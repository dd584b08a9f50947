use Rattle.std.proofs.Common.{sym, subst}
use Rattle.fc_moves.specs.Step.{ListsMoves}
use Rattle.fc_lists.proofs.WeaveLemmas.{none_goes}
use Rattle.fc_lists.proofs.weaving.home_move.Goals as goal

pub returns : goal.returns
returns g c = record {
  home = none_goes _ _ _ c.loop-m.m-index
      (subst (λ l. ListsMoves (g.G.Game.game c.args.game.now) c.args.position.now l) (sym c.as_slice-m-items.ensures.value) c.moves-list.ensures)
      c.loop-m-test.false c.loop-m.invariant;
}
