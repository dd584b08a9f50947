use Rattle.std.proofs.Common.{◌↔◌, ◌≤◌, length}
use Rattle.std.specs.List.{slice_split}
use Rattle.fc_text.specs.Line.{is_line_end}
use Rattle.fc_typed.proofs.AnyLemmas.{AnyOf}
use Rattle.fc_typed.proofs.MissingLemmas.{PartTellsHome}
use Rattle.fc_typed.proofs.missing.is_told_home.Given as goal

-- the lines that are left decide
abbrev pub invariant-loop-len : goal.invariant-loop-len
invariant-loop-len l = record {
  told : AnyOf (PartTellsHome l.card) (slice_split is_line_end l.rest) ↔ AnyOf (PartTellsHome l.card) (slice_split is_line_end l.text);
  within : length l.rest ≤ length l.text;
}

abbrev pub decreases-loop-len : goal.decreases-loop-len
decreases-loop-len l = length l.rest
