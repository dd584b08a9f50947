use Rattle.std.proofs.Common.{◌≡◌, ℕ, ◌<◌, ◌≤◌, [], length, get_or}
use Rattle.fc_codes.proofs.stacks.clear_from.Given as goal

-- the columns before this one that are to be cleared are, and the others are as they were
abbrev pub invariant-loop-i : goal.invariant-loop-i
invariant-loop-i l =
    (length l.columns ≡ 8) × ((m : ℕ) → m < l.first → get_or l.columns m [] ≡ get_or l.fn.columns m [])
    × ((m : ℕ) → l.first ≤ m → m < l.i → get_or l.columns m [] ≡ [])
