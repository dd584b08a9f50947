use Rattle.std.proofs.Common.{ℕ, ◌<◌}
use Rattle.fc_notes.specs.Reversed.{IsReversedDeal}
use Rattle.fc_notes.proofs.reversed_deals.reversed_deal.Given as goal

-- no deal with a number that was passed is it
abbrev pub invariant-loop-number : goal.invariant-loop-number
invariant-loop-number l = (n : ℕ) → n < l.number → IsReversedDeal n l.start → ⊥
