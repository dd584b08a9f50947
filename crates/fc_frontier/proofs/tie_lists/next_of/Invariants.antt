use Rattle.std.proofs.Common.{ℕ, ◌<◌, ◌≤◌, length}
use Rattle.std.specs.Prelude.{slice_index_or}
use Rattle.fc_frontier.specs.Tie.{Entry}
use Rattle.fc_frontier.specs.inner.Tie.{placed_of}
use Rattle.fc_frontier.proofs.tie_lists.next_of.Given as goal

abbrev pub invariant-loop-i : goal.invariant-loop-i
invariant-loop-i l = record {
  within : l.best < length l.entries;
  least : (k : ℕ) (d : Entry) → k < l.i → (placed_of (slice_index_or l.entries l.best d)).0 ≤ (placed_of (slice_index_or l.entries k d)).0;
  last : (k : ℕ) (d : Entry) → l.best < k → k < l.i → (placed_of (slice_index_or l.entries l.best d)).0 < (placed_of (slice_index_or l.entries k d)).0;
}
