use Rattle.std.proofs.Common.{◌≡◌, ◌≤◌, length}
use Rattle.std.specs.List.{slice_get, slice_split}
use Rattle.fc_text.specs.Line.{is_line_end}
use Rattle.fc_typed.specs.Typed.{typed_lines}
use Rattle.fc_typed.specs.declared.tidy_texts.TheConstants.{MOST_BYTES}
use Rattle.fc_typed.proofs.TypedLemmas.{left_lines}
use Rattle.fc_typed.proofs.typed_words.typed_line.Given as goal

-- the lines that are left decide
abbrev pub invariant-loop-len : goal.invariant-loop-len
invariant-loop-len l = record {
  told : slice_get (left_lines l.is_top (slice_split is_line_end l.rest)) l.left ≡ slice_get (typed_lines l.text) l.before;
  within : length l.rest ≤ MOST_BYTES;
}

abbrev pub decreases-loop-len : goal.decreases-loop-len
decreases-loop-len l = length l.rest
