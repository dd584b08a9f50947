use Rattle.std.proofs.Common.{◌≡◌, ℕ, ◌<◌}
use Rattle.fc_position.specs.Board.{column}
use Rattle.fc_notes.proofs.length_notes.has_same_columns.Given as goal

-- the columns that were passed are the same
abbrev pub invariant-loop-column : goal.invariant-loop-column
invariant-loop-column l = (i : ℕ) → i < l.column → column l.start i ≡ column l.other i
