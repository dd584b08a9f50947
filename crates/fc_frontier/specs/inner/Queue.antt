-- Queues of pairs of a number f and a node: what stands in them, and in which order it is taken, within the crate.
use Rattle.std.specs.Prelude.{ℕ, ◌<◌, ◌≤◌, length, List, slice_index_or}

-- of pairs in the order in which they were pushed, the place of the one that is taken first: no pair has a lesser f,
-- and no later pair an equal one
pub record IsPlaceOfLeast (pushed : List (ℕ × ℕ)) (place : ℕ) : Type 0 where
  pub within : place < length pushed
  pub least : (k : ℕ) (d : ℕ × ℕ) → k < length pushed → (slice_index_or pushed place d).0 ≤ (slice_index_or pushed k d).0
  pub last : (k : ℕ) (d : ℕ × ℕ) → place < k → k < length pushed
      → (slice_index_or pushed place d).0 < (slice_index_or pushed k d).0
