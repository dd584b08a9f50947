use Rattle.std.proofs.Common.{◌≡◌, ℕ, ◌<◌, None, length, get_or}
use Rattle.std.specs.Prelude.{slice_get}
use Rattle.fc_row_text.proofs.readings.words_from_first.Given as goal

-- the columns so far are filled
abbrev pub invariant-loop-column : goal.invariant-loop-column
invariant-loop-column l = (length l.entries ≡ 8) × ((k : ℕ) → k < l.column → get_or l.entries k None ≡ slice_get l.words k)
