use Rattle.std.proofs.Common.{◌∙◌, length, sym, ap, subst, arith}
use Rattle.fc_position.specs.Board.{column}
use Rattle.fc_sequences.specs.Sequence.{IsSequence}
use Rattle.fc_sequences.proofs.SpaceLemmas.{may_so, cut_is}
use Rattle.fc_sequences.proofs.carries.may_carry.Goals as goal
use Rattle.fc_sequences.proofs.carries.may_carry.Goals.{then-is_sequence, else-is_sequence}

pub returns-then-may_land : goal.returns-then-may_land
returns-then-may_land g c =
    let cut = cut_is c.args.count c.column-cards.result.now (column c.args.position.now c.args.from) c.column-cards.ensures.value in record {
      value = elim c.if-is_sequence.branch [
        | then-is_sequence w ↦
            let so = may_so (g.G.Game.game c.args.game.now) c.args.position.now c.args.from c.args.to c.args.count w.index-moved-0.result w.column.result.now _ (omega arith) (omega arith) (λ e. c.if-from-to.false (sym e)) (omega arith) (omega (arith, ap length c.column-cards.ensures.value)) cut w.column.ensures.value w.index-moved-0.is in (
              λ yes. so.0 (c.is_sequence.ensures.value.0 w.if-is_sequence.true, w.may_land.ensures.value.0 (sym w.value-is ∙ c.if-may_land.true), c.are_enough.ensures.value.0 yes),
              λ may. c.are_enough.ensures.value.1 (so.1 may).2,
            )
        | else-is_sequence w ↦ absurd (cc (w.value-is, w.if-is_sequence.false, c.if-may_land.true))
      ];
    }

pub returns-else-may_land : goal.returns-else-may_land
returns-else-may_land g c =
    let cut = cut_is c.args.count c.column-cards.result.now (column c.args.position.now c.args.from) c.column-cards.ensures.value in record {
      value = elim c.if-is_sequence.branch [
        | then-is_sequence w ↦
            let so = may_so (g.G.Game.game c.args.game.now) c.args.position.now c.args.from c.args.to c.args.count w.index-moved-0.result w.column.result.now _ (omega arith) (omega arith) (λ e. c.if-from-to.false (sym e)) (omega arith) (omega (arith, ap length c.column-cards.ensures.value)) cut w.column.ensures.value w.index-moved-0.is in
            (λ yes. absurd (cc (yes, c.if-may_land.false)), λ may. w.value-is ∙ w.may_land.ensures.value.1 (so.1 may).1)
        | else-is_sequence w ↦ (λ yes. absurd (cc (yes, c.if-may_land.false)), λ may. w.value-is ∙ c.is_sequence.ensures.value.1 (subst (IsSequence (g.G.Game.game c.args.game.now)) (sym cut) may.sequence))
      ];
    }
