use Rattle.std.proofs.Common.{ℕ, ◌<◌, length}
use Rattle.fc_position.specs.Board.{column}
use Rattle.fc_notes.specs.Length.{IsSixOrSeven}
use Rattle.fc_notes.proofs.deal_lengths.has_sixes_and_sevens.Given as goal

-- the columns that were passed have six cards or seven
abbrev pub invariant-loop-column : goal.invariant-loop-column
invariant-loop-column l = (i : ℕ) → i < l.column → IsSixOrSeven (length (column l.start i))
