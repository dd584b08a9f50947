use Rattle.std.proofs.Common.{◌≡◌, ◌≤◌, length}
use Rattle.std.specs.List.{find, slice_split}
use Rattle.fc_typed.specs.Typed.{is_word_gap, is_made_of, made_word}
use Rattle.fc_typed.specs.declared.tidy_texts.TheConstants.{MOST_BYTES}
use Rattle.fc_typed.proofs.typed_words.made_word.Given as goal

-- the pieces that are left decide
abbrev pub invariant-loop-len : goal.invariant-loop-len
invariant-loop-len l = record {
  told : find (is_made_of l.word) (slice_split is_word_gap l.rest) ≡ made_word l.word l.line;
  within : length l.rest ≤ MOST_BYTES;
}

abbrev pub decreases-loop-len : goal.decreases-loop-len
decreases-loop-len l = length l.rest
