use Rattle.std.specs.Prelude.{ℕ, Option}
use Rattle.fc_best_first.proofs.FloorLemmas.{IsLeastBut}
use Rattle.fc_best_first.proofs.floors.least_open.Given as goal

-- the floor of the pairs that came, and the others are left
abbrev pub invariant-loop-f : goal.invariant-loop-f
invariant-loop-f g l = (limit : Option ℕ) → IsLeastBut (record { graph = g.S.Space.graph l.fn._space; strategy = l.strategy; limit = limit }) l.book l.most l.floor l.f-iterator
