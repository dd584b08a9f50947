use Rattle.std.proofs.Common.{◌≡◌, ℕ, ◌-◌, ◌<◌, get_or}
use Rattle.fc_notes.proofs.reversed_deals.is_turned.Given as goal

-- the cards that were passed are those from the other end
abbrev pub invariant-loop-i : goal.invariant-loop-i
invariant-loop-i l = (k : ℕ) → k < l.i → get_or l.column k 0 ≡ get_or l.other (l.count - 1 - k) 0
