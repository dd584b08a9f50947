use Rattle.std.proofs.Common.{IfSome, subst}
use Rattle.fc_position.specs.Board.{Board}
use Rattle.fc_moves.specs.Step.{Step}
use Rattle.fc_bound.specs.Kinds.{IsShown}
use Rattle.fc_space.proofs.child_walks.Children.shown_plainly.Goals as goal

pub returns : goal.returns
returns g c = record {
  shown = subst (λ o. IfSome o (λ k. (z : Board) → Step (g.G.Game.game c.args.self.now.game) c.args.self.now.position c.args.m z
      → IsShown c.args.self.now.kind z k.number k.note)) c.unwrap.ensures c.known_after.ensures.known;
}
