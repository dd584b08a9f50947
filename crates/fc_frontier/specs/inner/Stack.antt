-- Stacks of nodes, one for each place, as a queue, within the crate.
use Rattle.std.specs.Prelude.{◌≡◌, ℕ, ◌+◌, ◌<◌, ◌≤◌, length, reverse, map, List, [], ◌∷◌, ◌++◌, slice_index_or}

-- a stack of nodes at one place as a queue: the top comes first
abbrev pub stack_pairs : ℕ → List ℕ → List (ℕ × ℕ)
stack_pairs place nodes = map (λ node. (place, node)) (reverse nodes)

-- stacks for a place, the next one and so on as a queue
abbrev pub queue_from : ℕ → List (List ℕ) → List (ℕ × ℕ)
queue_from place [] = []
queue_from place (nodes ∷ stacks) = stack_pairs place nodes ++ queue_from (place + 1) stacks

-- there may be more stacks behind the old ones, and those are empty
pub record HasGrown (old new : List (List ℕ)) : Type 0 where
  pub same : queue_from 0 new ≡ queue_from 0 old
  pub nodes : (k : ℕ) → slice_index_or new k [] ≡ slice_index_or old k []

-- every stack before the first one named is empty, and there are at most 524288 stacks
pub record AreStacks (stacks : List (List ℕ)) (first : ℕ) : Type 0 where
  pub few : length stacks ≤ 524288
  pub empty : (k : ℕ) → k < first → slice_index_or stacks k [] ≡ []
