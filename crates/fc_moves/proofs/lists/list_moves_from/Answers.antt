use Rattle.std.proofs.Common.{refl, sym, ◌∙◌, ap}
use Rattle.arrayvec.specs.ArrayVec.{array_vec_len}
use Rattle.fc_moves.specs.declared.steps.Move.{Move}
use Rattle.fc_moves.specs.Step.{Allows}
use Rattle.fc_moves.proofs.StepLemmas.{allows_by, source_there}
use Rattle.fc_moves.proofs.ListLemmas.{turn_adds, turn_passes}
use Rattle.fc_moves.proofs.lists.list_moves_from.Goals as goal
use Rattle.fc_moves.proofs.lists.list_moves_from.Goals.{then-joins+then-takes, else-joins, else-joins-via-then-joins+else-takes, else-joins-via-else-joins}

pub loop-number-preserved : goal.loop-number-preserved
loop-number-preserved g c =
    let game = g.G.Game.game c.args.game.now in
    let board = c.args.position.now in
    let to = c.place_of-to.result in
    let m : Move = record { from = c.args.from; to = to } in
    let source = source_there board c.args.from c.args.card c.requires.whole c.requires.card in
    let start = array_vec_len c.args.list.now in
    let turn = c.loop-number.invariant in
    let passes = λ (refused : Allows game board m → ⊥).
    turn_passes game board c.args.from to start c.loop-number.number c.loop-number.list.items c.requires.whole source c.place_of-to.ensures.there c.place_of-to.ensures.number turn refused in
    elim c.if-joins.branch [
      | then-joins+then-takes w ↦
          let joins = w.if-joins.ensures.0 refl in
          let allowed = (allows_by game board m c.args.card w.takes.result c.requires.card joins w.takes.ensures).0 w.if-takes.true in
          turn_adds game board c.args.from to start c.loop-number.number c.loop-number.list.items c.if-joins.list.items c.requires.whole source c.place_of-to.ensures.there c.place_of-to.ensures.number turn joins allowed
          (ap (λ v. v.items) w.list-is ∙ w.push.ensures.items)
      | else-joins w ↦ rw w.list-is (elim w.else-joins.branch [
        | else-joins-via-then-joins+else-takes v ↦
            let joins = v.if-joins.ensures.0 refl in
            passes (λ allowed. absurd (cc (sym v.if-takes.false
            ∙ (allows_by game board m c.args.card v.takes.result c.requires.card joins v.takes.ensures).1 allowed)))
        | else-joins-via-else-joins v ↦
            passes (λ allowed. absurd (cc (v.if-joins.ensures.1 allowed.1.joins)))
      ])
    ]
