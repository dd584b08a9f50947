-- Tables of answers: rows of a key's bytes and a cost, within the crate.
use Rattle.std.specs.Prelude.{ℕ, ◌+◌, ◌<◌, ◌≤◌, List, length, map, nat_lt, slice_index}
use Rattle.std.specs.List.{filter}
use Rattle.fc_position.specs.Board.{Board}
use Rattle.fc_canonical.specs.Spelled.{board_of_bytes}

-- the rows whose cost and bound are below n, by a lower bound
abbrev pub inside : (Board → ℕ) → ℕ → List (List ℕ × ℕ) → List (List ℕ × ℕ)
inside low n rows = filter (λ e. nat_lt (e.1 + low (board_of_bytes e.0)) n) rows

-- the same keys, each at no cost
abbrev pub at_no_cost : List (List ℕ × ℕ) → List (List ℕ × ℕ)
at_no_cost rows = map (λ e. (e.0, 0)) rows

-- the bytes begin as those of a key do: with four counts, each of half a byte, and two cells
pub record BeginsAsKey (key : List ℕ) : Type 0 where
  pub long : 6 ≤ length key
  pub counts : (i : ℕ) → i < 4 → slice_index key i < 16
