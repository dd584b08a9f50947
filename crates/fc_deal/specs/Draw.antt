-- The draws of a numbered deal.
use Rattle.std.specs.Prelude.{ℕ, zero, suc, ◌+◌, ◌*◌, ◌/◌, ◌%◌, ◌^◌}

-- the state that follows a state
abbrev pub next_state : ℕ → ℕ
next_state s = (s * 214013 + 2531011) % 2 ^ 31

-- the state of game n after k draws: at first the game's number
abbrev pub state : ℕ → ℕ → ℕ
state n zero = n
state n (suc k) = next_state (state n k)

-- the k-th draw of game n, k from 1
abbrev pub draw : ℕ → ℕ → ℕ
draw n k = state n k / 65536
