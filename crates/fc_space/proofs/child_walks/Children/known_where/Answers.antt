use Rattle.std.proofs.Common.{IfSome, subst}
use Rattle.std.proofs.lemmas.Option.{IfSome_then}
use Rattle.fc_position.specs.Board.{Board}
use Rattle.fc_moves.specs.Step.{Step}
use Rattle.fc_bound.specs.Kinds.{IsShown}
use Rattle.fc_space.proofs.child_walks.Children.known_where.Goals as goal

pub returns : goal.returns
returns g c =
    let inner = c.self.inside in
    let m = c.args.landing.now.m in
    record {
      known = subst (λ v. IfSome c.known_by.result (λ k. (z : Board) → Step (g.G.Game.game v.game) v.position m z → IsShown v.kind z k.number k.note))
          c.self.view_is
          (IfSome_then c.known_by.result c.known_by.ensures.known (λ k tells z step. tells (g.G.Game.game inner.rules.game) z step));
    }
