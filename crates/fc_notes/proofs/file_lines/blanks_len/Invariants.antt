use Rattle.std.proofs.Common.{◌≡◌, ℕ, ◌<◌, true, get_or}
use Rattle.std.specs.Char.{is_ascii_whitespace}
use Rattle.fc_notes.proofs.file_lines.blanks_len.Given as goal

-- what was passed is a blank
abbrev pub invariant-loop-i : goal.invariant-loop-i
invariant-loop-i l = (k : ℕ) → k < l.i → is_ascii_whitespace (get_or l.line k 0) ≡ true
