use Rattle.std.proofs.Common.{◌≡◌, ℕ, ◌<◌, None}
use Rattle.fc_position.specs.Board.{cell}
use Rattle.fc_canonical.proofs.distinct.first_empty_cell.Given as goal

-- none of the cells so far is empty
abbrev pub invariant-loop-j : goal.invariant-loop-j
invariant-loop-j g l = (k : ℕ) → k < l.j → cell l.position k ≡ None → ⊥
