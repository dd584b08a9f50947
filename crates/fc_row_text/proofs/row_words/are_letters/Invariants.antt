use Rattle.std.proofs.Common.{◌≡◌}
use Rattle.fc_row_text.specs.RowText.{are_letters, words_of}
use Rattle.fc_row_text.proofs.row_words.are_letters.Given as goal

-- the words and the letters that are left decide
abbrev pub invariant-loop-word : goal.invariant-loop-word
invariant-loop-word l = are_letters (words_of l.word-iterator.rest.now) l.left ≡ are_letters (words_of l.text) l.letters
