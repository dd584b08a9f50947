-- What the laws of this crate state.
use Rattle.std.specs.Prelude.{◌≡◌, ◌≢◌, ℕ, ◌+◌, ◌==◌, ◌&&◌, List, count_by}
use Rattle.fc_frontier.specs.Queue.{Adds}

-- how often a pair stands among these
abbrev pub times : ℕ × ℕ → List (ℕ × ℕ) → ℕ
times pair pairs = count_by (λ other. (other.0 == pair.0) && (other.1 == pair.1)) pairs

-- where one pair is added, it stands there once more, and every other pair as often as before
abbrev pub AddsCountOnce : Type 0
AddsCountOnce = (old new : List (ℕ × ℕ)) (pair other : ℕ × ℕ) → Adds old new pair
    → (times pair new ≡ times pair old + 1) × (other ≢ pair → times other new ≡ times other old)
