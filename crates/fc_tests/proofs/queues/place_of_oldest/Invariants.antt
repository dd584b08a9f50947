use Rattle.std.proofs.Common.{ℕ, ◌<◌, ◌≤◌, length}
use Rattle.std.specs.Prelude.{slice_index_or}
use Rattle.fc_tests.proofs.queues.place_of_oldest.Given as goal

abbrev pub invariant-loop-i : goal.invariant-loop-i
invariant-loop-i l = record {
  within : l.best < length l.pairs;
  least : (k : ℕ) (d : ℕ × ℕ) → k < l.i → (slice_index_or l.pairs l.best d).0 ≤ (slice_index_or l.pairs k d).0;
}
