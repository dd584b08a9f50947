use Rattle.std.proofs.Common.{◌≡◌, ◌≤◌, length}
use Rattle.std.specs.List.{slice_split}
use Rattle.fc_text.specs.Line.{is_line_end}
use Rattle.fc_typed.specs.Title.{title_in}
use Rattle.fc_typed.proofs.titles.title_of.Given as goal

-- the lines that are left decide
abbrev pub invariant-loop-len : goal.invariant-loop-len
invariant-loop-len l = record {
  told : title_in (slice_split is_line_end l.rest) ≡ title_in (slice_split is_line_end l.text);
  within : length l.rest ≤ length l.text;
}

abbrev pub decreases-loop-len : goal.decreases-loop-len
decreases-loop-len l = length l.rest
