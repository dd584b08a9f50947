use Rattle.std.proofs.Common.{arith}
use Rattle.fc_sequences.proofs.EntryLemmas.{another_next, none_other}
use Rattle.fc_sequences.proofs.gathers.may_play_another.Goals as goal
use Rattle.fc_sequences.proofs.gathers.may_play_another.Goals.{else-other-count-via-then-other-count+else-may_play_cards, else-other-count-via-else-other-count}

pub loop-other-preserved : goal.loop-other-preserved
loop-other-preserved g c =
    another_next (g.G.Game.game c.args.game.now) c.args.position.now c.args.from c.args.to c.args.count c.loop-other.other c.loop-other.invariant
    (elim c.else-other-count.branch [
      | else-other-count-via-then-other-count+else-may_play_cards w ↦ λ ne d plays. absurd (cc (w.if-may_play_cards.false, w.may_play_cards.ensures.value.1 (d, plays)))
      | else-other-count-via-else-other-count w ↦ λ ne d plays. ne w.if-other-count.false
    ])

pub returns : goal.returns
returns g c = record {
  value = (
    λ yes. absurd (cc yes),
    λ another. absurd (none_other (g.G.Game.game c.args.game.now) c.args.position.now c.args.from c.args.to c.args.count (g.met.G.Game.sound c.args.game.now)
        (λ n d some few. c.loop-other.invariant n d some (omega arith)) another),
  );
}
