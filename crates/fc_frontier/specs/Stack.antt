-- Stacks of nodes, one for each place, as a queue.
use Rattle.std.specs.Prelude.{ℕ, map, List}
use Rattle.std.specs.Global.{Vec}

-- the nodes of each stack, the one that was pushed last at the end
abbrev pub nodes_of : List (Vec ℕ) → List (List ℕ)
nodes_of stacks = map (λ stack. stack.items) stacks
