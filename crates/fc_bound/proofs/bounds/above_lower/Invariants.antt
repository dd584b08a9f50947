use Rattle.std.proofs.Common.{take}
use Rattle.fc_bound.proofs.AboveLemmas.{Seen}
use Rattle.fc_bound.proofs.bounds.above_lower.Given as goal

abbrev pub invariant-loop-card : goal.invariant-loop-card
invariant-loop-card l = Seen l.least l.count (take l.card-index l.cards)
