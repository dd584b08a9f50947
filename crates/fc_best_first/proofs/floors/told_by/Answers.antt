use Rattle.std.proofs.Common.{◌≡◌, ◌∙◌, ap, arith, refl, sym}
use Rattle.fc_best_first.specs.Graph.{Task}
use Rattle.fc_best_first.specs.Store.{bound_at, bound_in}
use Rattle.fc_best_first.proofs.FloorLemmas.{told_so}
use Rattle.fc_best_first.proofs.KeptLemmas.{entry_low}
use Rattle.fc_best_first.proofs.floors.told_by.Goals as goal

pub opening-opening-requires : goal.opening-opening-requires
opening-opening-requires g c =
    let long = c.requires.sound.1.1.noted.0 in
    record { noted = omega (arith, c.requires.within, long) }

pub overflow_add-mark : goal.overflow_add-mark
overflow_add-mark g c =
    let task : Task g.row.K.Denot = record { graph = g.S.Space.graph c.args._space.now; strategy = c.args.strategy.now; limit = c.requires.sound.1.0 } in
    let most = entry_low task c.args.book.now c.args.book.now c.args.number c.at.result.0.now c.at.result.1 c.requires.sound.1.1
    c.requires.sound.0 refl c.at.ensures.stands in
    omega (arith, most)

pub opens_at-f-requires : goal.opens_at-f-requires
opens_at-f-requires g c =
    let task : Task g.row.K.Denot = record { graph = g.S.Space.graph c.args._space.now; strategy = c.args.strategy.now; limit = c.requires.sound.1.0 } in
    let most = entry_low task c.args.book.now c.args.book.now c.args.number c.at.result.0.now c.at.result.1 c.requires.sound.1.1
    c.requires.sound.0 refl c.at.ensures.stands in
    record { low = omega (arith, most) }

pub returns : goal.returns
returns g c = record {
  told = λ limit.
      let own : Task g.row.K.Denot = record { graph = g.S.Space.graph c.args._space.now; strategy = c.args.strategy.now; limit = limit } in
      let bound : c.opening-opening.result.bound ≡ bound_at c.args.book.now c.args.number = sym (ap bound_in c.opening-opening.ensures.value) in (
        c.at.result.0.now,
        c.at.result.1,
        c.opens_at-f.result,
        c.at.ensures.stands,
        (c.opening-opening.result, c.opening-opening.ensures.value, c.opens_at-f.ensures.value),
        told_so own c.args.book.now c.args.number c.at.result.1 c.opens_at-f.result c.from.result c.times.result c.told.result (c.from.ensures ∙ bound)
            c.times.ensures.value c.told.ensures.own c.told.ensures.weighed c.told.ensures.under,
      );
}
