use Rattle.std.proofs.Common.{sym, subst}
use Rattle.fc_moves.specs.Step.{ListsMoves}
use Rattle.fc_lists.proofs.WeaveLemmas.{none_takes}
use Rattle.fc_lists.proofs.written_entries.move_of_card.Goals as goal

pub returns : goal.returns
returns g c = record {
  allowed = none_takes _ _ _ c.loop-m.m-index c.args.card c.args.to
      (subst (λ l. ListsMoves (g.G.Game.game c.args.game.now) c.args.position.now l) (sym c.as_slice-m-items.ensures.value) c.moves-list.ensures)
      c.loop-m-test.false c.loop-m.invariant;
}
