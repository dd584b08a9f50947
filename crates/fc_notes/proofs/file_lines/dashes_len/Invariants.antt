use Rattle.std.proofs.Common.{◌≡◌, ℕ, ◌<◌, true, get_or}
use Rattle.fc_notes.specs.File.{is_dash}
use Rattle.fc_notes.proofs.file_lines.dashes_len.Given as goal

-- what was passed is a dash
abbrev pub invariant-loop-i : goal.invariant-loop-i
invariant-loop-i l = (k : ℕ) → k < l.i → is_dash (get_or l.text k 0) ≡ true
