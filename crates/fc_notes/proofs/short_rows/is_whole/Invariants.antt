use Rattle.std.proofs.Common.{ℕ, ◌<◌, None, get_or}
use Rattle.std.specs.Prelude.{IsSome}
use Rattle.fc_notes.proofs.short_rows.is_whole.Given as goal

-- the row has an entry for each column that was passed
abbrev pub invariant-loop-column : goal.invariant-loop-column
invariant-loop-column l = (i : ℕ) → i < l.column → IsSome (get_or l.entries i None)
