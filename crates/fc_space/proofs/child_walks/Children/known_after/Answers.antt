use Rattle.std.proofs.Common.{IfSome, subst}
use Rattle.std.proofs.lemmas.Option.{IfSome_then}
use Rattle.fc_position.specs.Board.{Board}
use Rattle.fc_moves.specs.Step.{Step}
use Rattle.fc_bound.specs.Kinds.{IsShown}
use Rattle.fc_space.proofs.child_walks.Children.known_after.Goals as goal

pub returns-clause-known : goal.returns-clause-known
returns-clause-known g c =
    let inner = c.self.inside in
    subst (λ v. IfSome c.known_after.result (λ k. (z : Board) → Step (g.G.Game.game v.game) v.position c.args.m z → IsShown v.kind z k.number k.note))
    c.self.view_is
    (IfSome_then c.known_after.result c.known_after.ensures.known (λ k tells z step. tells (g.G.Game.game inner.rules.game) z step))
