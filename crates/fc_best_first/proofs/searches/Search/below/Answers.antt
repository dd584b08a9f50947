use Rattle.std.proofs.Common.{◌≡◌, ◌*◌, ◌≤◌, ℕ, [], ◌∷◌, sym, subst, refl, ap, ◌∙◌, arith}
use Rattle.fc_best_first.specs.declared.books.Mark.{Mark}
use Rattle.fc_best_first.specs.Graph.{Task}
use Rattle.fc_best_first.specs.Shown.{IsFloor}
use Rattle.fc_best_first.specs.Store.{IsOpening}
use Rattle.fc_best_first.proofs.BeginLemmas.{first_stored, begins_kept, begins_floor}
use Rattle.fc_best_first.proofs.searches.Search.below.Goals as goal

pub noted-requires-clause-reached : goal.noted-requires-clause-reached
noted-requires-clause-reached g c = (_, (0, c.in_ok-start.ensures.starts))

pub invariant_of-result : goal.invariant_of-result
invariant_of-result g c =
    let graph = g.S.Space.graph c.args.space in
    let task : Task g.row.K.Denot = record { graph = graph; strategy = c.args.strategy; limit = c.args.limit } in
    let key = c.in_ok-start.start.key in
    let mark : Mark = record { cost = c.from.result; parent = 0 } in
    let opening = c.new-opening.result in
    let some_room : 1 ≤ c.args.strategy.budget = c.get.ensures.range.least in
    let heavy : c.args.strategy.weight.parts ≤ c.args.strategy.weight.times = c.parts.ensures.range.above in
    let opens : IsOpening graph c.args.strategy.weight key opening =
    subst (IsOpening graph c.args.strategy.weight key) (sym c.new-opening.ensures.value) (refl, c.noted.ensures.shown) in
    let first = first_stored c.args.strategy c.new-book.result c.add.new.self
    (record { key = key; mark = mark; opening = opening }) c.in_ok-_stored._stored
    c.new-book.ensures.stored c.new-book.ensures.waiting c.new-book.ensures.openings some_room c.in_ok-_stored.ensures.stores in
    let start = subst (graph.starts key) (sym c.from.ensures) c.in_ok-start.ensures.starts in
    let alone : (y : g.row.K.Denot) (d : ℕ) → graph.starts y d → (y ≡ key) × (c.from.result ≤ d) =
    λ y d h. let a = c.in_ok-start.ensures.alone y d h in (a.0, subst (λ k. k ≤ d) (sym c.from.ensures) a.1) in (
      c.parts.ensures.range,
      c.get.ensures.range,
      begins_kept task c.add.new.self key mark first.0 opening opens first.1 first.2 (g.met.S.Space.lawful c.args.space) heavy start alone some_room refl,
      subst (IsFloor graph c.args.strategy.weight) (sym c.opens_at.ensures.value)
          (begins_floor task c.add.new.self key mark first.0 opening opens first.1 first.2 (g.met.S.Space.lawful c.args.space) heavy start alone),
      c.noted.ensures.owned,
    )
