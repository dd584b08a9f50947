use Rattle.std.proofs.Common.{◌≡◌, ◌∙◌, ◌<◌, ap, subst, arith}
use Rattle.fc_best_first.specs.Limits.{IsEven, IsWeight, Ratio}
use Rattle.fc_best_first.specs.Shown.{Holds, Shows}
use Rattle.fc_best_first.proofs.KeptLemmas.{stands_within}
use Rattle.fc_best_first.specs.declared.strategies.Strategy.{Strategy}
use Rattle.fc_search.specs.Problem.{task_of_problem}
use Rattle.fc_search.proofs.position_searches.Search.won_verdict.Goals as goal

pub floor_of-floor-requires-clause-sound : goal.floor_of-floor-requires-clause-sound
floor_of-floor-requires-clause-sound g c =
    (subst (Holds (task_of_problem c.args.self.now.problem) c.args.self.now.store) c.requires.done c.requires.held).0

pub floor_of-floor-requires-clause-within : goal.floor_of-floor-requires-clause-within
floor_of-floor-requires-clause-within g c =
    let now = c.args.self.now in
    let shows = subst (Shows (task_of_problem now.problem) now.store) c.requires.done c.requires.shown in
    stands_within now.store c.args.number shows.0 shows.1 shows.2

pub returns-then-times-parts-clause-told : goal.returns-then-times-parts-clause-told
returns-then-times-parts-clause-told g c =
    let q = c.args.self.now.problem in
    let same : c.strategy-weight.result.weight ≡ q.method.strategy.weight =
    ap (λ (v : Strategy). v.weight) c.strategy-weight.ensures.value ∙ ap (λ s. s.problem.method.strategy.weight) c.self.view_is in
    let parts : c.parts.result ≡ q.method.strategy.weight.parts = c.parts.ensures.value ∙ ap (λ (w : Ratio). w.parts) same in
    let times : c.times.result ≡ q.method.strategy.weight.times = c.times.ensures.value ∙ ap (λ (w : Ratio). w.times) same in
    let many = c.if-times-parts.true in
    let heavy : q.method.strategy.weight.parts < q.method.strategy.weight.times = omega (arith, parts, times, many) in
    (c.in_ok-moves.ensures.within heavy c.floor_of-floor.result c.floor_of-floor.ensures.value).0

pub returns-clause-kind : goal.returns-clause-kind
returns-clause-kind g c =
    let q = c.args.self.now.problem in
    let same : c.strategy-weight.result.weight ≡ q.method.strategy.weight =
    ap (λ (v : Strategy). v.weight) c.strategy-weight.ensures.value ∙ ap (λ s. s.problem.method.strategy.weight) c.self.view_is in
    let parts : c.parts.result ≡ q.method.strategy.weight.parts = c.parts.ensures.value ∙ ap (λ (w : Ratio). w.parts) same in
    let times : c.times.result ≡ q.method.strategy.weight.times = c.times.ensures.value ∙ ap (λ (w : Ratio). w.times) same in
    let range = subst (λ s. IsWeight s.problem.method.strategy.weight) c.self.view_is c.strategy-weight.ensures.weight in
    let light : IsEven q.method.strategy.weight = let few = c.if-times-parts.false in omega (arith, parts, times, range, few) in
    (c.in_ok-moves.ensures.shortest light).1

pub returns-then-times-parts-clause-kind : goal.returns-then-times-parts-clause-kind
returns-then-times-parts-clause-kind g c =
    let q = c.args.self.now.problem in
    let same : c.strategy-weight.result.weight ≡ q.method.strategy.weight =
    ap (λ (v : Strategy). v.weight) c.strategy-weight.ensures.value ∙ ap (λ s. s.problem.method.strategy.weight) c.self.view_is in
    let parts : c.parts.result ≡ q.method.strategy.weight.parts = c.parts.ensures.value ∙ ap (λ (w : Ratio). w.parts) same in
    let times : c.times.result ≡ q.method.strategy.weight.times = c.times.ensures.value ∙ ap (λ (w : Ratio). w.times) same in
    let many = c.if-times-parts.true in
    let heavy : q.method.strategy.weight.parts < q.method.strategy.weight.times = omega (arith, parts, times, many) in
    (c.in_ok-moves.ensures.within heavy c.floor_of-floor.result c.floor_of-floor.ensures.value).1

pub returns-clause-told : goal.returns-clause-told
returns-clause-told g c =
    let q = c.args.self.now.problem in
    let same : c.strategy-weight.result.weight ≡ q.method.strategy.weight =
    ap (λ (v : Strategy). v.weight) c.strategy-weight.ensures.value ∙ ap (λ s. s.problem.method.strategy.weight) c.self.view_is in
    let parts : c.parts.result ≡ q.method.strategy.weight.parts = c.parts.ensures.value ∙ ap (λ (w : Ratio). w.parts) same in
    let times : c.times.result ≡ q.method.strategy.weight.times = c.times.ensures.value ∙ ap (λ (w : Ratio). w.times) same in
    let range = subst (λ s. IsWeight s.problem.method.strategy.weight) c.self.view_is c.strategy-weight.ensures.weight in
    let light : IsEven q.method.strategy.weight = let few = c.if-times-parts.false in omega (arith, parts, times, range, few) in
    (c.in_ok-moves.ensures.shortest light).0
