-- Boards that are a numbered deal once each column is turned round, within the crate.
use Rattle.std.specs.Prelude.{◌≡◌, ℕ, ◌<◌, length}
use Rattle.fc_position.specs.Board.{Board, column}
use Rattle.fc_notes.specs.Length.{dealt_count}

-- each column has as many cards as that of a deal
abbrev pub HasDealtLengths : Board → Type 0
HasDealtLengths b = (i : ℕ) → i < 8 → length (column b i) ≡ dealt_count i
