use Rattle.std.proofs.Common.{ℕ, ◌-◌, ◌<◌, ◌≤◌, get_or}
use Rattle.fc_notes.specs.Length.{StandsBy}
use Rattle.fc_notes.proofs.played_columns.is_played_column.Given as goal

-- the cards that were passed stand on those before them
abbrev pub invariant-loop-depth : goal.invariant-loop-depth
invariant-loop-depth l = (k : ℕ) → l.dealt ≤ k → k < l.depth → StandsBy l.rule (get_or l.cards k 0) (get_or l.cards (k - 1) 0)
