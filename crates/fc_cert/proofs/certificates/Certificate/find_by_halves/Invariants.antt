use Rattle.std.proofs.Common.{◌≡◌, ◌-◌, ◌<◌, ◌≤◌, ℕ, List, length, Some}
use Rattle.std.specs.Prelude.{slice_get}
use Rattle.fc_canonical.specs.KeyOrder.{IsBefore}
use Rattle.fc_cert.proofs.certificates.Certificate.find_by_halves.Given as goal

-- the keys below the half that is left come before the key, and those from its end on after it
abbrev pub invariant-loop-low : goal.invariant-loop-low
invariant-loop-low l = record {
  order : l.low ≤ l.high;
  within : l.high ≤ length l.self.rows;
  below : (k : ℕ) (row : List ℕ × ℕ) → k < l.low → slice_get l.self.rows k ≡ Some row → IsBefore row.0 l.key;
  above : (k : ℕ) (row : List ℕ × ℕ) → l.high ≤ k → slice_get l.self.rows k ≡ Some row → IsBefore l.key row.0;
}

abbrev pub decreases-loop-low : goal.decreases-loop-low
decreases-loop-low l = l.high - l.low
