use Rattle.std.proofs.Common.{◌≡◌, ℕ, ◌<◌, get_or}
use Rattle.fc_notes.proofs.length_notes.is_same.Given as goal

-- the cards that were passed are the same
abbrev pub invariant-loop-i : goal.invariant-loop-i
invariant-loop-i l = (k : ℕ) → k < l.i → get_or l.cards k 0 ≡ get_or l.other k 0
