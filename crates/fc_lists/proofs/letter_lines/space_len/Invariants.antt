use Rattle.std.proofs.Common.{◌≡◌, ℕ, ◌<◌, true, get_or}
use Rattle.std.specs.Char.{is_ascii_whitespace}
use Rattle.fc_lists.proofs.letter_lines.space_len.Given as goal

-- what was passed is white space
abbrev pub invariant-loop-i : goal.invariant-loop-i
invariant-loop-i l = (k : ℕ) → k < l.i → is_ascii_whitespace (get_or l.line k 0) ≡ true
