use Rattle.fc_canonical.proofs.ListedLemmas.{lists_all, lists_first}
use Rattle.fc_canonical.proofs.distinct.list_distinct_moves.Goals as goal

pub returns : goal.returns
returns g c = record {
  classes = lists_all (g.G.Game.game c.args.game.now) c.args.position.now c.list_from_cells.new.list.items
      c.playable-home.ensures.whole c.list_from_cells.ensures.after;
  first = lists_first (g.G.Game.game c.args.game.now) c.args.position.now c.list_from_cells.new.list.items
      c.playable-home.ensures.whole c.list_from_cells.ensures.after;
  order = c.list_from_cells.ensures.after.rising;
}
