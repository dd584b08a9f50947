use Rattle.std.proofs.Common.{◌≡◌, drop}
use Rattle.std.specs.List.{list_any}
use Rattle.fc_row_text.specs.Places.{is_wide}
use Rattle.fc_row_text.proofs.readings.has_wide.Given as goal

-- the words that are left decide
abbrev pub invariant-loop-word : goal.invariant-loop-word
invariant-loop-word l = list_any is_wide (drop l.word-index l.words) ≡ list_any is_wide l.words
