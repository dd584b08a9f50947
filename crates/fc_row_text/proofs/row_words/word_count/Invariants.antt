use Rattle.std.proofs.Common.{◌≡◌, ◌+◌, length}
use Rattle.fc_row_text.specs.RowText.{words_of}
use Rattle.fc_row_text.proofs.row_words.word_count.Given as goal

-- those so far are counted, and the others are left
abbrev pub invariant-loop : goal.invariant-loop
invariant-loop l = l.count + length (words_of l.iterator'.rest.now) ≡ length (words_of l.text)
