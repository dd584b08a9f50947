use Rattle.std.proofs.Common.{◌≡◌, ℕ, false}
use Rattle.std.specs.Int.{bit_at}
use Rattle.fc_bound.specs.inner.Rows.{TellsKnot}
use Rattle.fc_bound.proofs.columns_left.Left.partner.Given as goal

-- none that is no more among the rest is knotted with it
abbrev pub invariant-loop-rest : goal.invariant-loop-rest
invariant-loop-rest l = record {
  some : (w : ℕ) → bit_at l.rest w ≡ 1 → bit_at l.others w ≡ 1;
  none : (w : ℕ) → bit_at l.others w ≡ 1 → (bit_at l.rest w ≡ 1 → ⊥) → TellsKnot l.self l.u w false;
}

abbrev pub decreases-loop-rest : goal.decreases-loop-rest
decreases-loop-rest l = l.rest
