use Rattle.std.proofs.Common.{sym, subst}
use Rattle.fc_moves.specs.Step.{ListsMoves}
use Rattle.fc_lists.proofs.WeaveLemmas.{chosen_on, is_in, left_none, met_none, way_left, way_on}
use Rattle.fc_lists.proofs.weaving.way_home.Goals as goal

pub loop-m-preserved : goal.loop-m-preserved
loop-m-preserved g c = record {
  some = chosen_on _ _ _ _ _ (c.moves-list.ensures.allowed _ (is_in _ _ _ _ c.as_slice-m-items.ensures.value c.loop-m-test.true)) c.home_of-chosen.ensures.chosen c.loop-m.invariant.some;
  way = λ k d below goes makes. way_on _ _ _ _ k _ _ d _ c.args.e.now c.loop-m-test.true c.home_of-chosen.ensures.way c.loop-m.invariant.way below goes makes;
  none = λ same k d below goes. met_none _ c.loop-m.m-index k _ _ d _ c.loop-m-test.true c.home_of-chosen.ensures.chosen c.loop-m.invariant.none same below goes;
}

pub returns-clause-none : goal.returns-clause-none
returns-clause-none g c = left_none _ _ _ c.loop-m.m-index c.loop-m.chosen
    (subst (λ l. ListsMoves (g.G.Game.game c.args.game.now) c.args.position.now l) (sym c.as_slice-m-items.ensures.value) c.moves-list.ensures)
    c.loop-m-test.false c.loop-m.invariant.none

pub returns-clause-way : goal.returns-clause-way
returns-clause-way g c = way_left _ _ _ c.loop-m.m-index c.loop-m.chosen c.args.e.now
    (subst (λ l. ListsMoves (g.G.Game.game c.args.game.now) c.args.position.now l) (sym c.as_slice-m-items.ensures.value) c.moves-list.ensures)
    c.loop-m-test.false c.loop-m.invariant.some c.loop-m.invariant.way
