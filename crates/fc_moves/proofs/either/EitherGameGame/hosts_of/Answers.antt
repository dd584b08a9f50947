use Rattle.std.proofs.Common.{ℕ, ◌↔◌, sym, ap, subst}
use Rattle.std.specs.Prelude.{Contains}
use Rattle.fc_moves.specs.GameRules.{GameRules, Stands}
use Rattle.fc_moves.specs.Either.{game_of_either}
use Rattle.fc_moves.proofs.either.EitherGameGame.hosts_of.Goals as goal

pub returns-in-One-clause-exact : goal.returns-in-One-clause-exact
returns-in-One-clause-exact g c =
    let same = ap (game_of_either g.A.Game.game g.B.Game.game) c.in-One.is in
    subst (λ (rules : GameRules). (u : ℕ) → Contains c.hosts_of.result.items u ↔ Stands rules u c.args.card) (sym same)
    c.hosts_of.ensures.exact

pub returns-in-Other-clause-exact : goal.returns-in-Other-clause-exact
returns-in-Other-clause-exact g c =
    let same = ap (game_of_either g.A.Game.game g.B.Game.game) c.in-Other.is in
    subst (λ (rules : GameRules). (u : ℕ) → Contains c.hosts_of-in-Other.result.items u ↔ Stands rules u c.args.card) (sym same)
    c.hosts_of-in-Other.ensures.exact
