use Rattle.fc_canonical.proofs.WantedLemmas.{wanted_all}
use Rattle.fc_canonical.proofs.wanted.list_wanted_moves.Goals as goal

pub returns : goal.returns
returns g c = record {
  listed = wanted_all (g.G.Game.game c.args.game.now) c.args.position.now c.args.wanted c.list_from_cells.new.list.items
      c.list_from_cells.result c.playable-home.ensures.whole c.list_from_cells.ensures.after;
}
