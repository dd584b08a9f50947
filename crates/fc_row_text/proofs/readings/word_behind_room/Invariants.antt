use Rattle.std.proofs.Common.{◌≡◌, drop}
use Rattle.fc_row_text.specs.Places.{word_behind_room}
use Rattle.fc_row_text.proofs.readings.word_behind_room.Given as goal

-- the words that are left decide
abbrev pub invariant-loop-word : goal.invariant-loop-word
invariant-loop-word l = word_behind_room (drop l.word-index l.words) ≡ word_behind_room l.words
