use Rattle.std.proofs.Common.{◌≡◌, ◌*◌, ◌≤◌, length, ap, refl, sym, ◌∙◌, subst, arith}
use Rattle.fc_moves.specs.Run.{Wins}
use Rattle.fc_best_first.specs.declared.strategies.Strategy.{Strategy}
use Rattle.fc_search.proofs.FloorLemmas.{ceiling, floor_below}
use Rattle.fc_search.proofs.position_searches.Search.at_least.Goals as goal

pub returns-clause-floor : goal.returns-clause-floor
returns-clause-floor g c = λ moves wins.
    let now = c.args.self.now in
    let inner = c.self.inside.search in
    let own : Wins (g.G.Game.game inner.space.rules.game) inner.space.start moves =
    subst (λ s. Wins s.problem.game s.problem.start moves) (sym c.self.view_is) wins in
    let by : c.from-times.result ≡ inner.strategy.weight.times =
    c.from-times.ensures ∙ c.times.ensures.value ∙ ap (λ (v : Strategy). v.weight.times) c.strategy.ensures.value in
    let range = c.strategy.ensures.weight in
    let near = ceiling c.floor.result inner.strategy.weight.times c.from-times.result c.div_ceil.result by (omega (arith, range)) c.div_ceil.ensures in
    let under : c.floor.result ≤ inner.strategy.weight.times * length moves =
    subst (λ n. n ≤ inner.strategy.weight.times * length moves) (sym c.floor.ensures.value) (c.floor.ensures.floor (length moves) (moves, refl, own)) in
    floor_below inner.strategy.weight.times c.floor.result c.div_ceil.result (length moves) under near.1
