use Rattle.std.proofs.Common.{ℕ, ◌<◌}
use Rattle.fc_position.specs.Board.{column}
use Rattle.fc_notes.specs.Length.{IsPlayedColumn, dealt_count}
use Rattle.fc_notes.proofs.played_columns.is_played.Given as goal

-- the columns that were passed are played
abbrev pub invariant-loop-column : goal.invariant-loop-column
invariant-loop-column l = (i : ℕ) → i < l.column → IsPlayedColumn l.rule (dealt_count i) (column l.start i)
