use Rattle.std.proofs.Common.{◌≡◌, ℕ, ◌<◌}
use Rattle.std.specs.Prelude.{reverse}
use Rattle.fc_position.specs.Board.{column}
use Rattle.fc_notes.proofs.reversed_deals.has_turned_columns.Given as goal

-- the columns that were passed are turned round
abbrev pub invariant-loop-column : goal.invariant-loop-column
invariant-loop-column l = (i : ℕ) → i < l.column → column l.start i ≡ reverse (column l.other i)
