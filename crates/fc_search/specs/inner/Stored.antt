-- What a search stores, as rows of a table.
use Rattle.std.specs.Prelude.{ℕ, List, map, take}
use Rattle.fc_position.specs.Board.{Board}
use Rattle.fc_bound.specs.Kinds.{guide_of}
use Rattle.fc_best_first.specs.Store.{Store}
use Rattle.fc_answers.specs.Table.{key_by}
use Rattle.fc_answers.specs.inner.Table.{inside}
use Rattle.fc_search.specs.Search.{State}

-- the keys of the stored classes with their costs
abbrev pub costs_of : Board → Store (List ℕ) → List (List ℕ × ℕ)
costs_of start s = map (λ e. (key_by start e.0, e.1.cost)) s.stored

-- those of the first so many stored classes whose cost and bound are below n
abbrev pub costs_inside : State → ℕ → ℕ → List (List ℕ × ℕ)
costs_inside s n many = inside (guide_of s.problem.method.bound) n (take many (costs_of s.problem.start s.store))
