use Rattle.std.proofs.Common.{◌≡◌, ℕ, ◌<◌, ◌≤◌, length, get_or}
use Rattle.std.specs.Int.{bit_at}
use Rattle.fc_bound.proofs.waiting_rows.unmoved.Given as goal

-- the cards from this place on have moved
abbrev pub invariant-loop-count : goal.invariant-loop-count
invariant-loop-count l =
    (l.count ≤ length l.cards) × ((k : ℕ) → l.count ≤ k → k < length l.cards → bit_at l.moved (get_or l.cards k 0) ≡ 1)

abbrev pub decreases-loop-count : goal.decreases-loop-count
decreases-loop-count l = l.count
