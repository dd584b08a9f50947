use Rattle.std.proofs.Common.{◌≡◌, ◌+◌, ◌*◌, sym, ◌∙◌, subst, arith}
use Rattle.fc_moves.specs.Step.{place_number}
use Rattle.fc_moves.specs.inner.Step.{ListsBelow}
use Rattle.fc_moves.proofs.ListLemmas.{lists_all, lists_empty, most_before-next}
use Rattle.fc_moves.proofs.lists.moves.Goals as goal
use Rattle.fc_moves.proofs.lists.moves.Goals.{in-Some, in_default}

pub loop-number-preserved : goal.loop-number-preserved
loop-number-preserved g c =
    let game = g.G.Game.game c.args.game.now in
    let board = c.args.position.now in
    let from = c.place_of-from.result in
    let number = c.place_of-from.ensures.number in
    let grows = most_before-next from c.loop-number.number c.place_of-from.ensures.there number c.loop-number-test.true in
    elim c.match-playable.branch [
      | in-Some w ↦
          let next : place_number from * 13 + 13 ≡ (c.loop-number.number + 1) * 13 = omega (arith, number) in
          rw w.list-is (record {
            listed = subst (λ k. ListsBelow game board k w.list_moves_from.new.list.items) next w.list_moves_from.ensures.after;
            whole = λ _. c.playable.ensures.whole;
            count = omega (arith, grows, c.loop-number.invariant.count, w.list_moves_from.ensures.count);
          })
      | in_default w ↦
          rw w.list-is (record {
            listed =
                lists_empty game board c.loop-number.number c.loop-number.list.items from c.playable.ensures.whole c.place_of-from.ensures.there number
                (sym c.playable.ensures.value ∙ w.in_default.is) c.loop-number.invariant.listed;
            whole = λ _. c.playable.ensures.whole;
            count = omega (arith, grows, c.loop-number.invariant.count);
          })
    ]

pub returns : goal.returns
returns g c =
    let last : c.loop-number.number ≡ 12 = omega arith in
    lists_all (g.G.Game.game c.args.game.now) c.args.position.now c.loop-number.list.items
    (c.loop-number.invariant.whole (omega arith))
    (subst (λ k. ListsBelow (g.G.Game.game c.args.game.now) c.args.position.now (k * 13) c.loop-number.list.items) last c.loop-number.invariant.listed)
