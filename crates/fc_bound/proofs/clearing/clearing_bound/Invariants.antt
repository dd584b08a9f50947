use Rattle.std.proofs.Common.{◌≤◌}
use Rattle.fc_bound.specs.Clearing.{clearing_cost}
use Rattle.fc_bound.proofs.clearing.clearing_bound.Given as goal

-- the cost is no less than each number so far
abbrev pub invariant-loop-cost : goal.invariant-loop-cost
invariant-loop-cost l = l.cost ≤ clearing_cost l.left
