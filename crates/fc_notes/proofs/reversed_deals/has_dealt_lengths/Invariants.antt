use Rattle.std.proofs.Common.{◌≡◌, ℕ, ◌<◌, length}
use Rattle.fc_position.specs.Board.{column}
use Rattle.fc_notes.specs.Length.{dealt_count}
use Rattle.fc_notes.proofs.reversed_deals.has_dealt_lengths.Given as goal

-- the columns that were passed are as long as a deal's
abbrev pub invariant-loop-column : goal.invariant-loop-column
invariant-loop-column l = (i : ℕ) → i < l.column → length (column l.start i) ≡ dealt_count i
