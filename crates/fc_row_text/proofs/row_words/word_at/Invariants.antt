use Rattle.std.proofs.Common.{◌≡◌, [], get_or}
use Rattle.fc_row_text.specs.RowText.{word_at, words_of}
use Rattle.fc_row_text.proofs.row_words.word_at.Given as goal

-- of the words that are left, it is the one with this number
abbrev pub invariant-loop-word : goal.invariant-loop-word
invariant-loop-word l = get_or (words_of l.word-iterator.rest.now) l.left [] ≡ word_at l.k l.text
