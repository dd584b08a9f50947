use Rattle.std.proofs.Common.{◌≡◌, ◌+◌, ◌*◌, ℕ, true, false, Option, ap, subst, arith}
use Rattle.std.specs.Option.{option_copied}
use Rattle.fc_cards.specs.declared.places.Place.TheVariants.{Column}
use Rattle.fc_position.specs.Board.{column}
use Rattle.fc_canonical.specs.inner.Wanted.{ListsWantedBelow}
use Rattle.fc_canonical.proofs.ListingLemmas.{last_is, cell_of_column}
use Rattle.fc_canonical.proofs.WantedLemmas.{card_told, empty_moves, nothing_listed, wanted_adds, wanted_asks, wanted_asks_no_more, wanted_no_card, wanted_none}
use Rattle.fc_canonical.proofs.wanted.list_from_columns.Goals as goal
use Rattle.fc_canonical.proofs.wanted.list_from_columns.Goals.{in-Some+then-is_wanted, in-Some+else-is_wanted+then-not-others, in-Some+else-is_wanted+else-not-others, in_default}

pub loop-i-init : goal.loop-i-init
loop-i-init g c =
    let game = g.G.Game.game c.args.game.now in
    let b = c.args.position.now in
    record {
      listed = wanted_none game b c.args.wanted (0 * 13) c.args.list.now.items (nothing_listed game b)
          (empty_moves c.args.list.now.items (omega arith));
      count = omega arith;
    }

pub list_card-requires-clause-cell : goal.list_card-requires-clause-cell
list_card-requires-clause-cell g c =
    rw c.source_of-source.ensures.from
    (cell_of_column (g.G.Game.game c.args.game.now) c.args.position.now c.loop-i.i _ c.args.spaces.cell c.requires.whole
    (g.met.G.Game.sound c.args.game.now)
    (last_is _ _ _ _ c.column.ensures.value c.last.ensures.value (ap option_copied c.in-Some.is)) c.requires.cell)

pub has_move-others-requires-clause-cell : goal.has_move-others-requires-clause-cell
has_move-others-requires-clause-cell g c =
    rw c.source_of-source-then-not-others.ensures.from
    (cell_of_column (g.G.Game.game c.args.game.now) c.args.position.now c.loop-i.i _ c.args.spaces.cell c.requires.whole
    (g.met.G.Game.sound c.args.game.now)
    (last_is _ _ _ _ c.column.ensures.value c.last.ensures.value (ap option_copied c.in-Some.is)) c.requires.cell)

pub loop-i-preserved : goal.loop-i-preserved
loop-i-preserved g c =
    let game = g.G.Game.game c.args.game.now in
    let b = c.args.position.now in
    let cards = c.args.wanted in
    let i = c.loop-i.i in
    let next : i * 13 + 13 ≡ (i + 1) * 13 = omega arith in
    let last = λ (v : Option ℕ) (is : option_copied c.last.result ≡ v).
    last_is _ (column b i) _ v c.column.ensures.value c.last.ensures.value is in
    elim c.match-last.branch [
      | in-Some+then-is_wanted w ↦
          let wanted = card_told b cards (Column i) w.in-Some.card.now _ true (last _ (ap option_copied w.in-Some.is))
          w.is_wanted.ensures.value w.if-is_wanted.true in
          rw (w.list-is, w.others-is) (record {
            listed = subst (λ k. ListsWantedBelow game b cards k w.list_card.new.list.items c.loop-i.others) next
                (wanted_adds game b cards (Column i) _ _ _ _ _ wanted
                (rw w.source_of-source.ensures.from at w.list_card.ensures.adds) c.loop-i.invariant.listed);
            count = omega (arith, c.loop-i.invariant.count, w.list_card.ensures.count);
          })
      | in-Some+else-is_wanted+then-not-others w ↦
          let unwanted = card_told b cards (Column i) w.in-Some.card.now _ false (last _ (ap option_copied w.in-Some.is))
          w.is_wanted.ensures.value w.if-is_wanted.false in
          rw (w.list-is, w.others-is) (record {
            listed = subst (λ k. ListsWantedBelow game b cards k c.loop-i.list.items w.has_move-others.result) next
                (wanted_asks game b cards (Column i) _ _ _ c.requires.whole c.loop-i-test.true unwanted w.if-not-others.true
                (rw w.source_of-source-then-not-others.ensures.from at w.has_move-others.ensures.value)
                c.loop-i.invariant.listed);
            count = omega (arith, c.loop-i.invariant.count);
          })
      | in-Some+else-is_wanted+else-not-others w ↦
          let unwanted = card_told b cards (Column i) w.in-Some.card.now _ false (last _ (ap option_copied w.in-Some.is))
          w.is_wanted.ensures.value w.if-is_wanted.false in
          rw (w.list-is, w.others-is) (record {
            listed = subst (λ k. ListsWantedBelow game b cards k c.loop-i.list.items c.loop-i.others) next
                (wanted_asks_no_more game b cards (Column i) _ _ c.requires.whole c.loop-i-test.true unwanted
                w.if-not-others.false c.loop-i.invariant.listed);
            count = omega (arith, c.loop-i.invariant.count);
          })
      | in_default w ↦ rw (w.list-is, w.others-is) (record {
        listed = subst (λ k. ListsWantedBelow game b cards k c.loop-i.list.items c.loop-i.others) next
            (wanted_no_card game b cards (Column i) _ _ c.requires.whole c.loop-i-test.true
            (last _ (ap option_copied w.in_default.is)) c.loop-i.invariant.listed);
        count = omega (arith, c.loop-i.invariant.count);
      })
    ]
