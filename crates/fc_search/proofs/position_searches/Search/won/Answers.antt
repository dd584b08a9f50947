use Rattle.std.proofs.Common.{◌≡◌, ◌∙◌, ◌<◌, ap, subst, arith}
use Rattle.std.specs.List.Sorted.{IsPermutation}
use Rattle.fc_best_first.specs.Limits.{IsEven, Ratio}
use Rattle.fc_best_first.specs.Shown.{Holds, Shows}
use Rattle.fc_best_first.proofs.KeptLemmas.{stands_within}
use Rattle.fc_answers.specs.declared.answers.Verdict.TheVariants as verdict
use Rattle.fc_answers.specs.inner.Table.{inside}
use Rattle.fc_search.specs.Search.{IsOfStatus}
use Rattle.fc_search.specs.inner.Stored.{costs_of}
use Rattle.fc_best_first.specs.declared.strategies.Strategy.{Strategy}
use Rattle.fc_search.proofs.AnswerLemmas.{backed_below, backed_shortest, floor_holds}
use Rattle.fc_search.specs.Problem.{task_of_problem}
use Rattle.fc_search.proofs.position_searches.Search.won.Goals as goal
use Rattle.fc_bound.specs.Kinds.{guide_of}

pub floor_of-floor-requires-clause-sound : goal.floor_of-floor-requires-clause-sound
floor_of-floor-requires-clause-sound g c =
    (subst (Holds (task_of_problem c.args.self.now.problem) c.args.self.now.store) c.requires.done c.requires.held).0

pub floor_of-floor-requires-clause-within : goal.floor_of-floor-requires-clause-within
floor_of-floor-requires-clause-within g c =
    let now = c.args.self.now in
    let shows = subst (Shows (task_of_problem now.problem) now.store) c.requires.done c.requires.shown in
    stands_within now.store c.args.number shows.0 shows.1 shows.2

pub table_below-requires : goal.table_below-requires
table_below-requires g c =
    record { sound = (subst (Holds (task_of_problem c.args.self.now.problem) c.args.self.now.store) c.requires.done c.requires.held).0 }

pub table_below-requires-2 : goal.table_below-requires-2
table_below-requires-2 g c =
    record { sound = (subst (Holds (task_of_problem c.args.self.now.problem) c.args.self.now.store) c.requires.done c.requires.held).0 }

pub returns-clause-answers : goal.returns-clause-answers
returns-clause-answers g c =
    let q = c.args.self.now.problem in
    let store = c.args.self.now.store in
    let moves = c.in_ok-moves.moves in
    let table = c.in_ok-table-2.table in
    let same : c.strategy-weight.result.weight ≡ q.method.strategy.weight =
    ap (λ (v : Strategy). v.weight) c.strategy-weight.ensures.value ∙ ap (λ s. s.problem.method.strategy.weight) c.self.view_is in
    let parts : c.parts.result ≡ q.method.strategy.weight.parts = c.parts.ensures.value ∙ ap (λ (w : Ratio). w.parts) same in
    let times : c.times.result ≡ q.method.strategy.weight.times = c.times.ensures.value ∙ ap (λ (w : Ratio). w.times) same in
    let range = c.known.ensures.weight in
    let light : IsEven q.method.strategy.weight = let few = c.if-times-parts.false in omega (arith, parts, times, range, few) in
    let shortest = c.in_ok-moves.ensures.shortest light in
    let won = subst (λ s. IsOfStatus q store s (verdict.Shortest moves)) c.requires.done shortest.1 in
    let made = c.in_ok-table-2.ensures in record {
      told = shortest.0;
      backed = backed_shortest q store c.known.ensures.names c.known.ensures.fits c.requires.whole range.least light c.args.number moves table
          (subst (Holds (task_of_problem q) store) c.requires.done c.requires.held) won.0 won.1 won.2 won.3 made.rule made.bound made.known
          (omega (arith, made.few, c.known.ensures.budget.greatest)) made.rising (subst (λ n. IsPermutation (inside (guide_of q.method.bound) n (costs_of q.start store)) table.rows) c.len.ensures.value made.rows);
      searched = (made.rule, made.bound, made.few);
    }

pub returns-then-times-parts-clause-answers : goal.returns-then-times-parts-clause-answers
returns-then-times-parts-clause-answers g c =
    let q = c.args.self.now.problem in
    let store = c.args.self.now.store in
    let floor = c.floor_of-floor.result in
    let told = c.floor_of-floor.ensures.value in
    let same : c.strategy-weight.result.weight ≡ q.method.strategy.weight =
    ap (λ (v : Strategy). v.weight) c.strategy-weight.ensures.value ∙ ap (λ s. s.problem.method.strategy.weight) c.self.view_is in
    let parts : c.parts.result ≡ q.method.strategy.weight.parts = c.parts.ensures.value ∙ ap (λ (w : Ratio). w.parts) same in
    let times : c.times.result ≡ q.method.strategy.weight.times = c.times.ensures.value ∙ ap (λ (w : Ratio). w.times) same in
    let many = c.if-times-parts.true in
    let heavy : q.method.strategy.weight.parts < q.method.strategy.weight.times = omega (arith, parts, times, many) in
    let found = subst (Holds (task_of_problem q) store) c.requires.done c.requires.held in
    let holds = floor_holds q store c.known.ensures.names c.known.ensures.fits c.known.ensures.weight.above c.requires.whole c.args.number told.0 told.1 floor found told.2 told.3 in
    let made = c.in_ok-table.ensures in record {
      told = (c.in_ok-moves.ensures.within heavy floor told).0;
      backed = backed_below q store c.known.ensures.names c.known.ensures.fits floor c.in_ok-table.table found.0 holds.0
          made.rule made.bound made.known (omega (arith, made.few, c.known.ensures.budget.greatest)) made.rising made.rows;
      searched = (made.rule, made.bound, made.few);
    }

pub returns-clause-kind : goal.returns-clause-kind
returns-clause-kind g c =
    let q = c.args.self.now.problem in
    let same : c.strategy-weight.result.weight ≡ q.method.strategy.weight =
    ap (λ (v : Strategy). v.weight) c.strategy-weight.ensures.value ∙ ap (λ s. s.problem.method.strategy.weight) c.self.view_is in
    let parts : c.parts.result ≡ q.method.strategy.weight.parts = c.parts.ensures.value ∙ ap (λ (w : Ratio). w.parts) same in
    let times : c.times.result ≡ q.method.strategy.weight.times = c.times.ensures.value ∙ ap (λ (w : Ratio). w.times) same in
    let range = c.known.ensures.weight in
    let light : IsEven q.method.strategy.weight = let few = c.if-times-parts.false in omega (arith, parts, times, range, few) in
    (c.in_ok-moves.ensures.shortest light).1

pub returns-then-times-parts-clause-kind : goal.returns-then-times-parts-clause-kind
returns-then-times-parts-clause-kind g c =
    let q = c.args.self.now.problem in
    let same : c.strategy-weight.result.weight ≡ q.method.strategy.weight =
    ap (λ (v : Strategy). v.weight) c.strategy-weight.ensures.value ∙ ap (λ s. s.problem.method.strategy.weight) c.self.view_is in
    let parts : c.parts.result ≡ q.method.strategy.weight.parts = c.parts.ensures.value ∙ ap (λ (w : Ratio). w.parts) same in
    let times : c.times.result ≡ q.method.strategy.weight.times = c.times.ensures.value ∙ ap (λ (w : Ratio). w.times) same in
    let many = c.if-times-parts.true in
    let heavy : q.method.strategy.weight.parts < q.method.strategy.weight.times = omega (arith, parts, times, many) in
    (c.in_ok-moves.ensures.within heavy c.floor_of-floor.result c.floor_of-floor.ensures.value).1
