use Rattle.std.proofs.Common.{◌≡◌, ◌+◌, ◌*◌, Some, None, ap, subst, arith}
use Rattle.std.specs.Option.{option_copied}
use Rattle.fc_cards.specs.declared.places.Place.TheVariants.{Column}
use Rattle.fc_position.specs.Board.{column, last_of}
use Rattle.fc_canonical.specs.inner.Distinct.{ListsDistinctBelow}
use Rattle.fc_canonical.proofs.AddedLemmas.{adds_lists}
use Rattle.fc_canonical.proofs.ListingLemmas.{last_is, source_passes, cell_of_column}
use Rattle.fc_canonical.proofs.distinct.list_from_columns.Goals as goal
use Rattle.fc_canonical.proofs.distinct.list_from_columns.Goals.{in-Some, in_default}

pub list_from-requires-clause-cell : goal.list_from-requires-clause-cell
list_from-requires-clause-cell g c =
    let there : last_of (column c.args.position.now c.loop-i.i) ≡ Some c.in-Some.card.now =
    last_is c.column.result.now (column c.args.position.now c.loop-i.i) (option_copied c.last.result) (Some c.in-Some.card.now)
    c.column.ensures.value c.last.ensures.value (ap option_copied c.in-Some.is) in
    cell_of_column (g.G.Game.game c.args.game.now) c.args.position.now c.loop-i.i c.in-Some.card.now c.args.cell c.requires.whole
    (g.met.G.Game.sound c.args.game.now) there c.requires.cell

pub loop-i-preserved : goal.loop-i-preserved
loop-i-preserved g c =
    let game = g.G.Game.game c.args.game.now in
    let b = c.args.position.now in
    let i = c.loop-i.i in
    let low = i * 13 in
    let next : i * 13 + 13 ≡ (i + 1) * 13 = omega arith in
    elim c.match-last.branch [
      | in-Some w ↦ rw w.list-is (record {
        listed = subst (λ k. ListsDistinctBelow game b k w.list_from.new.list.items) next
            (adds_lists game b (Column i) low (low + 13) c.loop-i.list.items w.list_from.new.list.items w.list_from.ensures.adds
            c.loop-i.invariant.listed);
        count = omega (arith, c.loop-i.invariant.count, w.list_from.ensures.count);
      })
      | in_default w ↦
          let none : last_of (column b i) ≡ None =
          last_is c.column.result.now (column b i) (option_copied c.last.result) None c.column.ensures.value c.last.ensures.value
          (ap option_copied w.in_default.is) in
          rw w.list-is (record {
            listed = subst (λ k. ListsDistinctBelow game b k c.loop-i.list.items) next
                (source_passes game b (Column i) c.loop-i.list.items c.requires.whole c.loop-i-test.true
                none c.loop-i.invariant.listed);
            count = omega (arith, c.loop-i.invariant.count);
          })
    ]
