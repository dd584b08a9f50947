use Rattle.std.proofs.Common.{take, ◌∙◌, arith}
use Rattle.fc_bound.specs.Bound.{is_above_lower}
use Rattle.fc_bound.proofs.AboveLemmas.{seen-none, turn_above, turn_lower}
use Rattle.fc_bound.proofs.CountLemmas.{count-most}
use Rattle.fc_bound.proofs.bounds.above_lower.Goals as goal
use Rattle.fc_bound.proofs.bounds.above_lower.Goals.{then-least-suit, else-least-suit}

pub loop-card-init : goal.loop-card-init
loop-card-init c = seen-none

pub overflow_add-count : goal.overflow_add-count
overflow_add-count c = omega (arith, c.loop-card.invariant.counts, count-most (λ x. is_above_lower x (take c.loop-card.card-index c.args.cards.now)))

pub loop-card-preserved : goal.loop-card-preserved
loop-card-preserved c = elim c.if-least-suit.branch [
  | then-least-suit w ↦ turn_above c.args.cards.now c.loop-card.least c.if-least-suit.least c.loop-card.card-index c.loop-card.count
      c.if-least-suit.count c.card-item.result c.index-suit.result c.rank-rank.result c.loop-card.invariant c.loop-card-test.true
      c.card-item.is c.requires.once (c.index-suit.ensures.value ∙ c.suit.ensures) c.rank-rank.ensures.value
      c.rank-rank.ensures.within.greatest w.if-least-suit.true w.least-is w.count-is
  | else-least-suit w ↦ turn_lower c.args.cards.now c.loop-card.least c.if-least-suit.least c.loop-card.card-index c.loop-card.count
      c.if-least-suit.count c.card-item.result c.index-suit.result c.rank-rank.result c.loop-card.invariant c.loop-card-test.true
      c.card-item.is c.requires.once (c.index-suit.ensures.value ∙ c.suit.ensures) c.rank-rank.ensures.value
      c.rank-rank.ensures.within.greatest w.if-least-suit.false w.least-is w.count-is
]
