use Rattle.std.proofs.Common.{◌≡◌, ℕ, ◌<◌, true, get_or}
use Rattle.fc_text.proofs.pieces.gap_len.Given as goal

-- what was passed is a gap
abbrev pub invariant-loop-i : goal.invariant-loop-i
invariant-loop-i g l = (k : ℕ) → k < l.i → g.G.Gaps.gap (get_or l.text k 0) ≡ true
