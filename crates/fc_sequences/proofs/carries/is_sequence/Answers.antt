use Rattle.std.proofs.Common.{◌∙◌, sym, arith}
use Rattle.fc_sequences.proofs.CardLemmas.{sequence_more, sequence_at}
use Rattle.fc_sequences.proofs.carries.is_sequence.Goals as goal

pub returns-then-not-stands : goal.returns-then-not-stands
returns-then-not-stands g c = record {
  value = (
    λ yes. absurd (cc yes),
    λ seq. absurd (cc (sym c.if-not-stands.true ∙ c.stands.ensures.value.1 (sequence_at (g.G.Game.game c.args.game.now) c.args.cards.now c.loop-i.i c.index-cards-i.result c.index-cards-i-in-loop-i.result (omega arith) (omega arith) c.index-cards-i.is c.index-cards-i-in-loop-i.is seq))),
  );
}

pub loop-i-preserved : goal.loop-i-preserved
loop-i-preserved g c =
    sequence_more (g.G.Game.game c.args.game.now) c.args.cards.now c.loop-i.i c.index-cards-i.result c.index-cards-i-in-loop-i.result (omega arith) (omega arith) c.index-cards-i.is c.index-cards-i-in-loop-i.is (c.stands.ensures.value.0 c.if-not-stands.false) c.loop-i.invariant
