use Rattle.std.proofs.Common.{◌≡◌, ℕ, ◌<◌, ◌≤◌, length, get_or}
use Rattle.fc_codes.specs.inner.Landed.{IsHomeState}
use Rattle.fc_codes.proofs.start_layouts.with_homes.Given as goal

-- the states tell which of the cards so far are home
abbrev pub invariant-loop-index : goal.invariant-loop-index
invariant-loop-index l =
    (length l.fn.code ≡ 52 → length l.code ≡ 52) × ((c : ℕ) → c < l.index → IsHomeState l.start c (get_or l.fn.code c 0) (get_or l.code c 0))
    × ((c : ℕ) → l.index ≤ c → get_or l.code c 0 ≡ get_or l.fn.code c 0)
