use Rattle.std.proofs.Common.{◌≡◌, ◌≤◌, Option, Some, ap, inl, length, subst, sym, arith}
use Rattle.std.specs.Prelude.{IfOk, slice_get}
use Rattle.std.proofs.lemmas.Result.{IfOk-weaker}
use Rattle.fc_best_first.specs.declared.spaces.Noted.{Noted}
use Rattle.fc_best_first.specs.Graph.{Task}
use Rattle.fc_best_first.specs.Store.{IsTaken, weighed_cost}
use Rattle.fc_best_first.specs.Turn.{Advances, Closes, Expands, ExpandsTaken}
use Rattle.fc_best_first.specs.inner.Turn.{Becomes, IsReady}
use Rattle.fc_best_first.proofs.KeptLemmas.{entry_low, entry_reached, pair_high, stands_within, taken_floor, taken_within}
use Rattle.fc_best_first.proofs.ClosedLemmas.{kept_back, noted_same}
use Rattle.fc_best_first.proofs.OfferLemmas.{noted_shown}
use Rattle.fc_best_first.proofs.TurnLemmas.{becomes_advances, children_reached, expands_grow, placing_ready}
use Rattle.fc_best_first.proofs.turns.advance.Goals as goal
use Rattle.fc_best_first.proofs.turns.advance.Goals.{After-opens_at}

pub at-requires : goal.at-requires
at-requires g c =
    let task : Task g.row.K.Denot = record { graph = g.S.Space.graph c.args.space.now; strategy = c.args.strategy.now; limit = c.args.limit } in
    record {
      within = taken_within task c.args.book.now c.take.new.self c.in-Some.f
          c.in-Some.number c.requires.kept.sound c.in-Some.ensures.taken c.in-Some.ensures.kept;
    }

pub returns-then-is_won-clause-floor : goal.returns-then-is_won-clause-floor
returns-then-is_won-clause-floor g c = taken_floor c.args.book.now.waiting c.take.new.self.waiting c.in-Some.f c.in-Some.number c.args.floor.now
    c.max.result c.in-Some.ensures.taken c.in-Some.ensures.least c.max.ensures

pub opening-opening-requires : goal.opening-opening-requires
opening-opening-requires g c =
    let task : Task g.row.K.Denot = record { graph = g.S.Space.graph c.args.space.now; strategy = c.args.strategy.now; limit = c.args.limit } in
    let within = taken_within task c.args.book.now c.take.new.self c.in-Some.f
    c.in-Some.number c.requires.kept.sound c.in-Some.ensures.taken c.in-Some.ensures.kept in
    let size = ap length c.in-Some.ensures.kept in
    let long = c.requires.kept.sound.noted.0 in
    let same = ap length c.in-Some.ensures.noted in
    record { noted = omega (arith, within, size, long, same) }

pub opens_at-requires : goal.opens_at-requires
opens_at-requires g c =
    let most = entry_low (record { graph = g.S.Space.graph c.args.space.now; strategy = c.args.strategy.now; limit = c.args.limit }) c.args.book.now c.take.new.self c.in-Some.number _ _
    c.requires.kept.sound c.get.ensures.range.greatest c.in-Some.ensures.kept c.at.ensures.stands in
    record { low = omega (arith, most) }

pub weighed-cost-requires : goal.weighed-cost-requires
weighed-cost-requires g c =
    let most = entry_low (record { graph = g.S.Space.graph c.args.space.now; strategy = c.args.strategy.now; limit = c.args.limit }) c.args.book.now c.take.new.self c.in-Some.number _ _
    c.requires.kept.sound c.get.ensures.range.greatest c.in-Some.ensures.kept c.at.ensures.stands in
    record { low = omega (arith, most) }

pub visit-others-requires-clause-reached : goal.visit-others-requires-clause-reached
visit-others-requires-clause-reached g c =
    entry_reached (record { graph = g.S.Space.graph c.args.space.now; strategy = c.args.strategy.now; limit = c.args.limit }) c.args.book.now c.take.new.self
    c.in-Some.number _ _ c.requires.kept.sound c.in-Some.ensures.kept c.at.ensures.stands

pub visit-others-requires-clause-shown : goal.visit-others-requires-clause-shown
visit-others-requires-clause-shown g c =
    let graph = g.S.Space.graph c.args.space.now in
    let shown = noted_shown graph c.args.book.now c.in-Some.number c.at.result.0.now c.at.result.1 c.opening-opening.result
    c.requires.kept.sound.noted
    (kept_back c.args.book.now c.take.new.self c.in-Some.number c.at.result.0.now c.at.result.1 c.in-Some.ensures.kept c.at.ensures.stands)
    (subst (λ os. slice_get os c.in-Some.number ≡ Some c.opening-opening.result) c.in-Some.ensures.noted c.opening-opening.ensures.value) in
    subst (λ (n : Noted). graph.shown c.at.result.0.now n.bound n.note) (sym c.noted.ensures.value) shown

-- the pair that is taken
taken : (g : _) (c : After-opens_at g) → IsTaken c.args.book.now c.take.new.self c.in-Some.f c.in-Some.number c.at.result.0.now c.at.result.1
taken g c = record {
  taken = c.in-Some.ensures.taken;
  least = c.in-Some.ensures.least;
  kept = c.in-Some.ensures.kept;
  noted = c.in-Some.ensures.noted;
  stands = kept_back c.args.book.now c.take.new.self c.in-Some.number c.at.result.0.now c.at.result.1 c.in-Some.ensures.kept c.at.ensures.stands;
}

-- its weighed cost is no more than its f
low : (g : _) (c : After-opens_at g) → weighed_cost c.args.strategy.now c.at.result.1 ≤ c.in-Some.f
low g c =
    let task : Task g.row.K.Denot = record { graph = g.S.Space.graph c.args.space.now; strategy = c.args.strategy.now; limit = c.args.limit } in
    let high = pair_high task c.args.book.now c.in-Some.f c.in-Some.number c.take.new.self.waiting c.at.result.0.now c.at.result.1
    c.requires.kept.sound c.in-Some.ensures.taken (taken g c).stands in
    omega (arith, high)

-- where its key was opened last
opened : (g : _) (c : After-opens_at g) → slice_get c.args.book.now.openings c.in-Some.number ≡ Some c.opening-opening.result
opened g c = subst (λ os. slice_get os c.in-Some.number ≡ Some c.opening-opening.result) c.in-Some.ensures.noted c.opening-opening.ensures.value

not_won : (g : _) (c : After-opens_at g) → (g.S.Space.graph c.args.space.now).won c.at.result.0.now → ⊥
not_won g c won = let yes = c.is_won.ensures.value.1 won in let no = c.if-is_won.false in cc

pub returns-then-f-opens_at-clause-floor : goal.returns-then-f-opens_at-clause-floor
returns-then-f-opens_at-clause-floor g c = taken_floor c.args.book.now.waiting c.take.new.self.waiting c.in-Some.f c.in-Some.number c.args.floor.now
    c.max.result c.in-Some.ensures.taken c.in-Some.ensures.least c.max.ensures

pub returns-then-f-opens_at-clause-takes : goal.returns-then-f-opens_at-clause-takes
returns-then-f-opens_at-clause-takes g c =
    let now = goal.at.returns-then-f-opens_at-clause-takes g c in
    inl (
      c.in-Some.f,
      c.in-Some.number,
      c.at.result.0.now,
      c.at.result.1,
      taken g now.After-opens_at,
      not_won g now.After-opens_at,
      (
        c.opening-opening.result,
        opened g now.After-opens_at,
        λ same. let no = c.if-f-opens_at.true in omega (arith, c.opens_at.ensures.value, same, no),
      ),
    )

pub visit-others-requires-clause-low : goal.visit-others-requires-clause-low
visit-others-requires-clause-low g c =
    entry_low (record { graph = g.S.Space.graph c.args.space.now; strategy = c.args.strategy.now; limit = c.args.limit }) c.args.book.now c.take.new.self c.in-Some.number _ _
    c.requires.kept.sound c.get.ensures.range.greatest c.in-Some.ensures.kept c.at.ensures.stands

pub expand-requires-clause-low : goal.expand-requires-clause-low
expand-requires-clause-low g c =
    entry_low (record { graph = g.S.Space.graph c.args.space.now; strategy = c.args.strategy.now; limit = c.args.limit }) c.args.book.now c.take.new.self c.in-Some.number _ _
    c.requires.kept.sound c.get.ensures.range.greatest c.in-Some.ensures.kept c.at.ensures.stands

pub expand-requires-clause-noted : goal.expand-requires-clause-noted
expand-requires-clause-noted g c = noted_same (g.S.Space.graph c.args.space.now) c.args.book.now
    c.take.new.self c.in-Some.ensures.kept c.in-Some.ensures.noted c.requires.kept.sound.noted

pub expand-requires-clause-reached : goal.expand-requires-clause-reached
expand-requires-clause-reached g c = λ children rest.
    let all = c.visit-others.ensures.children children rest in
    let reached = children_reached (g.S.Space.graph c.args.space.now) c.at.result.0.now all.0
    (entry_reached (record { graph = g.S.Space.graph c.args.space.now; strategy = c.args.strategy.now; limit = c.args.limit }) c.args.book.now c.take.new.self
    c.in-Some.number _ _ c.requires.kept.sound c.in-Some.ensures.kept c.at.ensures.stands) all.1 in
    λ child there. reached child (all.2 child there)

pub returns-in_err-placing-clause-floor : goal.returns-in_err-placing-clause-floor
returns-in_err-placing-clause-floor g c = taken_floor c.args.book.now.waiting c.take.new.self.waiting c.in-Some.f c.in-Some.number c.args.floor.now
    c.max.result c.in-Some.ensures.taken c.in-Some.ensures.least c.max.ensures

pub close-requires : goal.close-requires
close-requires g c =
    let now = goal.at.close-requires g c in
    let expands = c.in_ok-placing.ensures.expands in
    let grow = expands_grow (record { graph = g.S.Space.graph c.args.space.now; strategy = c.args.strategy.now; limit = c.args.limit }) c.in-Some.f _ expands.0
    c.take.new.self c.expand.new.book expands.1 expands.3 in
    let lt = stands_within c.take.new.self c.in-Some.number c.at.result.0.now c.at.result.1 c.at.ensures.stands in
    record {
      later = subst (λ k. IsReady c.expand.new.book c.in-Some.number k c.in_ok-placing.placing) (sym c.weighed-cost.ensures.value)
          (placing_ready c.args.strategy.now.expansion (g.S.Space.graph c.args.space.now) c.expand.new.book c.in-Some.number c.in-Some.f
          (weighed_cost c.args.strategy.now c.at.result.1) c.in_ok-placing.placing c.in_ok-placing.ensures.noted (omega (arith, lt, grow))
          (low g now.After-opens_at) c.in_ok-placing.ensures.near);
    }

pub returns-clause-takes : goal.returns-clause-takes
returns-clause-takes g c =
    let now = goal.at.returns-clause-takes g c in
    let task : Task g.row.K.Denot = record { graph = g.S.Space.graph c.args.space.now; strategy = c.args.strategy.now; limit = c.args.limit } in
    let expands = c.in_ok-placing.ensures.expands in
    let all = c.visit-others.ensures.children expands.0 expands.2 in
    let works : (left_out : Option g.row.K.Denot) → Closes c.expand.new.book c.close.new.book c.in-Some.number (weighed_cost c.args.strategy.now c.at.result.1) c.in_ok-placing.placing left_out
    → ExpandsTaken task c.args.book.now c.close.new.book c.in-Some.number left_out = λ left_out closes. (
      c.in-Some.f,
      c.at.result.0.now,
      c.at.result.1,
      c.take.new.self,
      taken g now.After-opens_at,
      not_won g now.After-opens_at,
      (
        c.opening-opening.result,
        opened g now.After-opens_at,
        let yes = c.if-f-opens_at.false in omega (arith, c.opens_at.ensures.value, yes),
      ),
      (
        all.0,
        all.1,
        (
          c.expand.new.book,
          c.in_ok-placing.placing,
          subst (Expands task c.in-Some.f (record { cost = c.at.result.1.cost; parent = c.in-Some.number }) all.0 c.take.new.self c.expand.new.book) (sym expands.4)
              (all.3 c.take.new.self c.expand.new.book expands.1 expands.3),
          closes,
        ),
      ),
    ) in
    IfOk-weaker c.close.result
    (Becomes c.expand.new.book c.close.new.book c.in-Some.number (weighed_cost c.args.strategy.now c.at.result.1) c.in_ok-placing.placing)
    (Advances task c.args.book.now c.close.new.book)
    (λ status becomes. becomes_advances task c.args.book.now c.expand.new.book c.close.new.book c.in-Some.number
    (weighed_cost c.args.strategy.now c.at.result.1) c.in_ok-placing.placing works status becomes)
    (subst (λ k. IfOk c.close.result (Becomes c.expand.new.book c.close.new.book c.in-Some.number k c.in_ok-placing.placing))
    c.weighed-cost.ensures.value c.close.ensures.closes)

pub returns-clause-floor : goal.returns-clause-floor
returns-clause-floor g c = taken_floor c.args.book.now.waiting c.take.new.self.waiting c.in-Some.f c.in-Some.number c.args.floor.now
    c.max.result c.in-Some.ensures.taken c.in-Some.ensures.least c.max.ensures
