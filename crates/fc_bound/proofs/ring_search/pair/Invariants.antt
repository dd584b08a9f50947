use Rattle.std.proofs.Common.{◌≡◌, ℕ, ◌<◌, ◌^◌}
use Rattle.std.specs.Int.{bit_at}
use Rattle.fc_bound.specs.inner.Tied.{IsWithin, WaitsBy}
use Rattle.fc_bound.proofs.ring_search.pair.Given as goal

-- what is left is of the others, and waits beneath the card
abbrev pub invariant-loop-rest : goal.invariant-loop-rest
invariant-loop-rest l = record {
  below : l.rest < 2 ^ 52;
  within : IsWithin l.rest l.others;
  wait : (c : ℕ) → bit_at l.rest c ≡ 1 → WaitsBy l.rows c l.card;
}

abbrev pub decreases-loop-rest : goal.decreases-loop-rest
decreases-loop-rest l = l.rest
