use Rattle.std.proofs.Common.{ℕ, ◌<◌, get_or}
use Rattle.fc_typed.specs.inner.Count.{IsNumberByte}
use Rattle.fc_typed.proofs.counts.number_len.Given as goal

-- what was passed may stand in a number
abbrev pub invariant-loop-i : goal.invariant-loop-i
invariant-loop-i l = (k : ℕ) → k < l.i → IsNumberByte (get_or l.text k 0)
