use Rattle.std.proofs.Common.{◌≡◌, drop}
use Rattle.fc_row_text.specs.Places.{first_under}
use Rattle.fc_row_text.proofs.readings.first_under.Given as goal

-- the words that are left decide
abbrev pub invariant-loop-word : goal.invariant-loop-word
invariant-loop-word l = first_under l.above (drop l.word-index l.words) ≡ first_under l.above l.words
