use Rattle.std.proofs.Common.{◌≡◌, ℕ, ◌<◌, []}
use Rattle.fc_position.specs.Board.{column}
use Rattle.fc_canonical.proofs.distinct.first_empty_column.Given as goal

-- none of the columns so far is empty
abbrev pub invariant-loop-j : goal.invariant-loop-j
invariant-loop-j l = (k : ℕ) → k < l.j → column l.position k ≡ [] → ⊥
