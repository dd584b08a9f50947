use Rattle.std.proofs.Common.{◌≡◌, ℕ, ◌<◌, length, get_or}
use Rattle.fc_codes.specs.inner.Landed.{IsCellState}
use Rattle.fc_codes.proofs.start_layouts.with_cells.Given as goal

-- the states tell the cards of the cells so far
abbrev pub invariant-loop-i : goal.invariant-loop-i
invariant-loop-i l =
    (length l.code ≡ 52) × ((c : ℕ) → c < 52 → IsCellState l.start l.i c (get_or l.code c 0))
