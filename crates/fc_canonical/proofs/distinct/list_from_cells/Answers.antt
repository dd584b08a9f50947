use Rattle.std.proofs.Common.{◌≡◌, ◌+◌, ◌*◌, sym, ◌∙◌, subst, arith}
use Rattle.fc_cards.specs.declared.places.Place.TheVariants.{Cell}
use Rattle.fc_canonical.specs.inner.Distinct.{ListsDistinctBelow}
use Rattle.fc_canonical.proofs.AddedLemmas.{adds_lists}
use Rattle.fc_canonical.proofs.ListingLemmas.{source_passes}
use Rattle.fc_canonical.proofs.distinct.list_from_cells.Goals as goal
use Rattle.fc_canonical.proofs.distinct.list_from_cells.Goals.{in-Some, in_default}

pub loop-i-preserved : goal.loop-i-preserved
loop-i-preserved g c =
    let game = g.G.Game.game c.args.game.now in
    let b = c.args.position.now in
    let i = c.loop-i.i in
    let low = (8 + i) * 13 in
    let next : (8 + i) * 13 + 13 ≡ (8 + (i + 1)) * 13 = omega arith in
    elim c.match-cell.branch [
      | in-Some w ↦ rw w.list-is (record {
        listed = subst (λ k. ListsDistinctBelow game b k w.list_from.new.list.items) next
            (adds_lists game b (Cell i) low (low + 13) c.loop-i.list.items w.list_from.new.list.items w.list_from.ensures.adds
            c.loop-i.invariant.listed);
        count = omega (arith, c.loop-i.invariant.count, w.list_from.ensures.count);
      })
      | in_default w ↦ rw w.list-is (record {
        listed = subst (λ k. ListsDistinctBelow game b k c.loop-i.list.items) next
            (source_passes game b (Cell i) c.loop-i.list.items c.requires.whole c.loop-i-test.true
            (sym c.cell.ensures.value ∙ w.in_default.is) c.loop-i.invariant.listed);
        count = omega (arith, c.loop-i.invariant.count);
      })
    ]
