use Rattle.std.proofs.Common.{◌≡◌, ℕ, ◌<◌, None, length, get_or}
use Rattle.std.specs.Option.{option_or}
use Rattle.fc_row_text.specs.RowText.{left_by}
use Rattle.fc_row_text.proofs.row_checks.left_with.Given as goal

-- the columns so far are filled
abbrev pub invariant-loop-column : goal.invariant-loop-column
invariant-loop-column l =
    (length l.below ≡ 8) × ((k : ℕ) → k < l.column → get_or l.below k None ≡ option_or (get_or l.left k None) (left_by l.number (get_or l.entries k None)))
