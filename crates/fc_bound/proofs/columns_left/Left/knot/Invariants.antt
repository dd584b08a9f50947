use Rattle.std.proofs.Common.{◌≡◌, ℕ, true}
use Rattle.std.specs.Int.{bit_at}
use Rattle.fc_bound.specs.Knots.{ends_among}
use Rattle.fc_bound.proofs.PairLemmas.{IsAlone}
use Rattle.fc_bound.proofs.columns_left.Left.knot.Given as goal

-- those that are no more among the rest are knotted with none
abbrev pub invariant-loop-rest : goal.invariant-loop-rest
invariant-loop-rest l = record {
  some : (w : ℕ) → bit_at l.rest w ≡ 1 → ends_among l.self w ≡ true;
  alone : (w : ℕ) → ends_among l.self w ≡ true → (bit_at l.rest w ≡ 1 → ⊥) → IsAlone l.self w;
}

abbrev pub decreases-loop-rest : goal.decreases-loop-rest
decreases-loop-rest l = l.rest
