use Rattle.std.proofs.Common.{◌≡◌, ℕ, ◌<◌, None}
use Rattle.fc_position.specs.Board.{cell}
use Rattle.fc_notes.proofs.deal_lengths.has_no_held.Given as goal

-- the cells that were passed are empty
abbrev pub invariant-loop-cell : goal.invariant-loop-cell
invariant-loop-cell l = (i : ℕ) → i < l.cell → cell l.start i ≡ None
