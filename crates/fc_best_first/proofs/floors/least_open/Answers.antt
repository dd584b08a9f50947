use Rattle.std.proofs.Common.{◌≡◌, ◌*◌, ◌∙◌, ap, arith, refl, subst, sym}
use Rattle.std.specs.List.Sorted.{IsPermutation}
use Rattle.fc_best_first.specs.Graph.{Task}
use Rattle.fc_best_first.specs.Store.{bound_at, bound_in}
use Rattle.fc_best_first.proofs.FloorLemmas.{at_same, least_begins, least_counts, least_ends, least_stale, next_waits, told_so, waiting_within}
use Rattle.fc_best_first.proofs.KeptLemmas.{entry_low}
use Rattle.fc_best_first.proofs.floors.least_open.Goals as goal

pub loop-f-init : goal.loop-f-init
loop-f-init g c limit =
    let own : Task g.row.K.Denot = record { graph = g.S.Space.graph c.args._space.now; strategy = c.args.strategy.now; limit = limit } in
    least_begins own c.args.book.now c.args.most c.into_iter-f-iterator.result
    (subst (λ ps. IsPermutation ps c.args.book.now.waiting) (sym c.into_iter-f-iterator.ensures.into_iter_gives)
    c.waiting-f-items.ensures.items)

pub at-requires : goal.at-requires
at-requires g c =
    let task : Task g.row.K.Denot = record { graph = g.S.Space.graph c.args._space.now; strategy = c.args.strategy.now; limit = c.requires.sound.1.0 } in
    record {
      within = waiting_within task c.args.book.now c.in-Some.f c.in-Some.number c.requires.sound.1.1
          (next_waits task c.args.book.now c.args.most c.loop-f.floor c.in-Some.f c.in-Some.number c.loop-f.f-iterator
          c.next.new.self c.in-Some.ensures.steps (c.loop-f.invariant c.requires.sound.1.0));
    }

pub opening-opening-requires : goal.opening-opening-requires
opening-opening-requires g c =
    let task : Task g.row.K.Denot = record { graph = g.S.Space.graph c.args._space.now; strategy = c.args.strategy.now; limit = c.requires.sound.1.0 } in
    let within = waiting_within task c.args.book.now c.in-Some.f c.in-Some.number c.requires.sound.1.1
    (next_waits task c.args.book.now c.args.most c.loop-f.floor c.in-Some.f c.in-Some.number c.loop-f.f-iterator
    c.next.new.self c.in-Some.ensures.steps (c.loop-f.invariant c.requires.sound.1.0)) in
    let long = c.requires.sound.1.1.noted.0 in
    record { noted = omega (arith, within, long) }

pub opens_at-requires : goal.opens_at-requires
opens_at-requires g c =
    let task : Task g.row.K.Denot = record { graph = g.S.Space.graph c.args._space.now; strategy = c.args.strategy.now; limit = c.requires.sound.1.0 } in
    let most = entry_low task c.args.book.now c.args.book.now c.in-Some.number c.at.result.0.now c.at.result.1 c.requires.sound.1.1
    c.requires.sound.0 refl c.at.ensures.stands in
    record { low = omega (arith, most) }

pub overflow_add-mark : goal.overflow_add-mark
overflow_add-mark g c =
    let task : Task g.row.K.Denot = record { graph = g.S.Space.graph c.args._space.now; strategy = c.args.strategy.now; limit = c.requires.sound.1.0 } in
    let most = entry_low task c.args.book.now c.args.book.now c.in-Some.number c.at.result.0.now c.at.result.1 c.requires.sound.1.1
    c.requires.sound.0 refl c.at.ensures.stands in
    omega (arith, most)

pub loop-f-preserved-then-f-opens_at : goal.loop-f-preserved-then-f-opens_at
loop-f-preserved-then-f-opens_at g c limit =
    let own : Task g.row.K.Denot = record { graph = g.S.Space.graph c.args._space.now; strategy = c.args.strategy.now; limit = limit } in
    let cost = c.args.strategy.now.weight.parts * c.at.result.1.cost in
    least_stale own c.args.book.now c.args.most c.loop-f.floor c.in-Some.f c.in-Some.number c.loop-f.f-iterator
    c.next.new.self c.in-Some.ensures.steps (c.loop-f.invariant limit) c.at.result.0.now c.at.result.1 c.at.ensures.stands
    (λ there. let same = at_same c.args.book.now c.in-Some.number cost c.in-Some.f c.opens_at.result there (c.opening-opening.result, c.opening-opening.ensures.value, c.opens_at.ensures.value) in
    let no = c.if-f-opens_at.true in omega (arith, same, no))

pub loop-f-preserved : goal.loop-f-preserved
loop-f-preserved g c limit =
    let own : Task g.row.K.Denot = record { graph = g.S.Space.graph c.args._space.now; strategy = c.args.strategy.now; limit = limit } in
    let told = c.told-told in
    let yes = c.if-f-opens_at.false in
    let same : c.in-Some.f ≡ c.opens_at.result = omega (arith, yes) in
    let bound : c.opening-opening.result.bound ≡ bound_at c.args.book.now c.in-Some.number = sym (ap bound_in c.opening-opening.ensures.value) in
    least_counts own c.args.book.now c.args.most c.loop-f.floor c.in-Some.f c.in-Some.number c.loop-f.f-iterator
    c.next.new.self c.in-Some.ensures.steps (c.loop-f.invariant limit) c.at.result.0.now c.at.result.1 c.at.ensures.stands told.result c.min-floor.result
    (c.opening-opening.result, c.opening-opening.ensures.value, same ∙ c.opens_at.ensures.value)
    (told_so own c.args.book.now c.in-Some.number c.at.result.1 c.in-Some.f c.from.result c.times.result told.result (c.from.ensures ∙ bound) (ap (λ w. w) c.times.ensures.value)
    told.ensures.own told.ensures.weighed told.ensures.under)
    c.min-floor.ensures

pub returns : goal.returns
returns g c =
    record {
      value = λ limit. least_ends (record { graph = g.S.Space.graph c.args._space.now; strategy = c.args.strategy.now; limit = limit }) c.args.book.now c.args.most c.loop-f.floor c.loop-f.f-iterator
          c.in-None.ensures.steps.0 (c.loop-f.invariant limit);
    }
