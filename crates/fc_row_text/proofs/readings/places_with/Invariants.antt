use Rattle.std.proofs.Common.{◌≡◌, ℕ, ◌<◌, None, length, get_or}
use Rattle.std.specs.Option.{option_or}
use Rattle.fc_row_text.proofs.readings.places_with.Given as goal

-- the columns so far are filled
abbrev pub invariant-loop-column : goal.invariant-loop-column
invariant-loop-column l = (length l.places ≡ 8) × ((k : ℕ) → k < l.column → get_or l.places k None ≡ option_or (get_or l.entries k None) (get_or l.above k None))
