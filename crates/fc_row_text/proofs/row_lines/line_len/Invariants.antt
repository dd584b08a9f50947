use Rattle.std.proofs.Common.{◌≡◌, ℕ, ◌<◌, false, get_or}
use Rattle.fc_text.specs.Line.{is_line_end}
use Rattle.fc_row_text.proofs.row_lines.line_len.Given as goal

-- what was passed is no LF
abbrev pub invariant-loop-i : goal.invariant-loop-i
invariant-loop-i l = (k : ℕ) → k < l.i → is_line_end (get_or l.text k 0) ≡ false
