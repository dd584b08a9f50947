-- Queues as they are walked over.
use Rattle.std.specs.Prelude.{ℕ, ◌+◌, map, List, [], ◌∷◌, ◌++◌}

-- nodes of one f as pairs
abbrev pub node_pairs : ℕ → List ℕ → List (ℕ × ℕ)
node_pairs f nodes = map (λ node. (f, node)) nodes

-- the pairs of stacks for f, f + 1 and so on, the node that was pushed first at the front of each stack
abbrev pub pairs_in_turn : ℕ → List (List ℕ) → List (ℕ × ℕ)
pairs_in_turn f [] = []
pairs_in_turn f (nodes ∷ stacks) = node_pairs f nodes ++ pairs_in_turn (f + 1) stacks
