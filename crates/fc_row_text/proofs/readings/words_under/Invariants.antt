use Rattle.std.proofs.Common.{◌≡◌, ℕ, ◌<◌, None, length, get_or}
use Rattle.fc_row_text.specs.Places.{word_under}
use Rattle.fc_row_text.proofs.readings.words_under.Given as goal

-- the columns so far are filled
abbrev pub invariant-loop-column : goal.invariant-loop-column
invariant-loop-column l = (length l.entries ≡ 8) × ((k : ℕ) → k < l.column → get_or l.entries k None ≡ word_under (get_or l.places k None) l.words)
