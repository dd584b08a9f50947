use Rattle.std.proofs.Common.{◌≡◌, ℕ, ◌≤◌, Some, get_or, []}
use Rattle.std.specs.Int.{bit_at}
use Rattle.fc_position.specs.Board.{last_of}
use Rattle.fc_bound.specs.Clearing.{without, cards_in, clearing_cost}
use Rattle.fc_bound.proofs.clearing.+costs_at_most.Given as goal

-- fewer cards are left
abbrev pub decreases-costs_at_most : goal.decreases-costs_at_most
decreases-costs_at_most l = cards_in l.left.now

-- each card of the knot that is no more among the rest costs more
abbrev pub invariant-loop-rest : goal.invariant-loop-rest
invariant-loop-rest l = record {
  some : (u : ℕ) → bit_at l.rest u ≡ 1 → bit_at l.knot u ≡ 1;
  more : (k u : ℕ) → last_of (get_or l.left k []) ≡ Some u → bit_at l.knot u ≡ 1 → (bit_at l.rest u ≡ 1 → ⊥)
      → l.most ≤ clearing_cost (without l.left k);
}

abbrev pub decreases-loop-rest : goal.decreases-loop-rest
decreases-loop-rest l = l.rest
