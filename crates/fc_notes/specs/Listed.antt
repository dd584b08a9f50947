-- The boards of a file, as they are told one after the other.
use Rattle.std.specs.Prelude.{ℕ, ◌+◌, ◌≤◌, List, length}
use Rattle.fc_notes.specs.File.{boards_below}
use Rattle.fc_notes.specs.declared.files.ListedBoard.{ListedBoard}
use Rattle.fc_notes.specs.declared.files.ListedBoards.{ListedBoards}

-- a board as it is told: its text, and how many lines of its file stand above it
abbrev pub listed_of : ListedBoard → List ℕ × ℕ
listed_of board = (board.text.now, board.above)

-- the boards that are left
abbrev pub boards_left : ListedBoards → List (List ℕ × ℕ)
boards_left s = boards_below s.above s.rest.now

-- a count of all lines that are left fits its type
abbrev pub IsCountable : ListedBoards → Type 0
IsCountable s = s.above + length s.rest.now ≤ 18446744073709551615
