use Rattle.std.proofs.Common.{◌≡◌, ◌+◌, ◌*◌, true, false, sym, ◌∙◌, subst, arith, rules}
use Rattle.std.proofs.lemmas.Bool.{not-false, not-true}
use Rattle.fc_cards.specs.declared.places.Place.TheVariants.{Cell}
use Rattle.fc_canonical.specs.inner.Wanted.{ListsWantedBelow}
use Rattle.fc_canonical.proofs.WantedLemmas.{card_told, wanted_adds, wanted_asks, wanted_asks_no_more, wanted_no_card}
use Rattle.fc_canonical.proofs.wanted.list_from_cells.Goals as goal
use Rattle.fc_canonical.proofs.wanted.list_from_cells.Goals.{in-Some+then-is_wanted, in-Some+else-is_wanted+then-not-sought, in-Some+else-is_wanted+else-not-sought, in_default}

pub list_card-requires-clause-cell : goal.list_card-requires-clause-cell
list_card-requires-clause-cell g c = rw c.source_of-source.ensures.from (search rules)

pub has_move-requires-clause-cell : goal.has_move-requires-clause-cell
has_move-requires-clause-cell g c = rw c.source_of-source-then-not-sought.ensures.from (search rules)

pub loop-i-preserved : goal.loop-i-preserved
loop-i-preserved g c =
    let game = g.G.Game.game c.args.game.now in
    let b = c.args.position.now in
    let cards = c.loop-i.sought.cards in
    let i = c.loop-i.i in
    let next : (8 + i) * 13 + 13 ≡ (8 + (i + 1)) * 13 = omega arith in
    elim c.match-cell.branch [
      | in-Some+then-is_wanted w ↦
          let wanted = card_told b cards (Cell i) w.in-Some.card _ true (sym c.cell.ensures.value ∙ w.in-Some.is)
          w.is_wanted.ensures.value w.if-is_wanted.true in
          rw (w.list-is, w.sought-is) (record {
            listed = subst (λ k. ListsWantedBelow game b cards k w.list_card.new.list.items c.loop-i.sought.others) next
                (wanted_adds game b cards (Cell i) _ _ _ _ _ wanted
                (rw w.source_of-source.ensures.from at w.list_card.ensures.adds) c.loop-i.invariant.listed);
            cards = c.loop-i.invariant.cards;
            count = omega (arith, c.loop-i.invariant.count, w.list_card.ensures.count);
          })
      | in-Some+else-is_wanted+then-not-sought w ↦
          let unwanted = card_told b cards (Cell i) w.in-Some.card _ false (sym c.cell.ensures.value ∙ w.in-Some.is)
          w.is_wanted.ensures.value w.if-is_wanted.false in
          rw (w.list-is, w.sought-is) (record {
            listed = subst (λ k. ListsWantedBelow game b cards k c.loop-i.list.items w.has_move.result) next
                (wanted_asks game b cards (Cell i) _ _ _ c.requires.whole c.loop-i-test.true unwanted
                (not-true _ w.if-not-sought.true)
                (rw w.source_of-source-then-not-sought.ensures.from at w.has_move.ensures.value) c.loop-i.invariant.listed);
            cards = c.loop-i.invariant.cards;
            count = omega (arith, c.loop-i.invariant.count);
          })
      | in-Some+else-is_wanted+else-not-sought w ↦
          let unwanted = card_told b cards (Cell i) w.in-Some.card _ false (sym c.cell.ensures.value ∙ w.in-Some.is)
          w.is_wanted.ensures.value w.if-is_wanted.false in
          rw (w.list-is, w.sought-is) (record {
            listed = subst (λ k. ListsWantedBelow game b cards k c.loop-i.list.items c.loop-i.sought.others) next
                (wanted_asks_no_more game b cards (Cell i) _ _ c.requires.whole c.loop-i-test.true unwanted
                (not-false _ w.if-not-sought.false) c.loop-i.invariant.listed);
            cards = c.loop-i.invariant.cards;
            count = omega (arith, c.loop-i.invariant.count);
          })
      | in_default w ↦ rw (w.list-is, w.sought-is) (record {
        listed = subst (λ k. ListsWantedBelow game b cards k c.loop-i.list.items c.loop-i.sought.others) next
            (wanted_no_card game b cards (Cell i) _ _ c.requires.whole c.loop-i-test.true
            (sym c.cell.ensures.value ∙ w.in_default.is) c.loop-i.invariant.listed);
        cards = c.loop-i.invariant.cards;
        count = omega (arith, c.loop-i.invariant.count);
      })
    ]
