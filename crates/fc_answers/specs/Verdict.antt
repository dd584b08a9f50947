-- What is told of a position and a budget, and when that is right.
use Rattle.std.specs.Prelude.{◌≡◌, ℕ, ◌*◌, ◌^◌, ◌<◌, ◌≤◌, List, length, All}
use Rattle.fc_position.specs.Board.{Board}
use Rattle.fc_moves.specs.declared.steps.Move.{Move}
use Rattle.fc_moves.specs.GameRules.{GameRules}
use Rattle.fc_moves.specs.MoveText.{HasText}
use Rattle.fc_moves.specs.Run.{Wins, IsShortest, CannotWin, ReachesMore}
use Rattle.fc_answers.specs.declared.answers.TheConstants.{MOST_MOVES}
use Rattle.fc_answers.specs.declared.answers.Outcome.{Outcome}
use Rattle.fc_answers.specs.declared.answers.Outcome.TheVariants as outcome
use Rattle.fc_answers.specs.declared.answers.Verdict.{Verdict}
use Rattle.fc_answers.specs.declared.answers.Verdict.TheVariants.{Shortest, Won, CannotWin as cannot_win, GaveUp}

-- what is told of a verdict without its moves: how many there are, and the floor
abbrev pub outcome_of : Verdict → Outcome
outcome_of (Shortest moves) = outcome.Shortest (length moves)
outcome_of (Won moves floor) = outcome.Won (length moves) floor
outcome_of cannot_win = outcome.CannotWin
outcome_of (GaveUp told) = outcome.GaveUp told

-- the list wins, and its moves, so many parts of them, are no more than so many times those of any list that wins; and none
-- that wins is below what is told as its floor
pub record IsWithin (g : GameRules) (parts times : ℕ) (b : Board) (moves : List Move) (told : ℕ) : Type 0 where
  pub above : parts < times
  pub wins : Wins g b moves
  pub least : (other : List Move) → Wins g b other → parts * length moves ≤ times * length other
  pub floor : (other : List Move) → Wins g b other → told ≤ length other

-- the verdict of a search is right for a board and a budget: the moves win and none win in fewer, or the moves win within
-- the weight of so many times the parts, or no moves win, or the budget is told and more positions than that can be reached
abbrev pub IsRight : GameRules → ℕ → ℕ → Board → ℕ → Verdict → Type 0
IsRight g parts times b budget (Shortest moves) = IsShortest g b moves
IsRight g parts times b budget (Won moves floor) = IsWithin g parts times b moves floor
IsRight g parts times b budget cannot_win = CannotWin g b
IsRight g parts times b budget (GaveUp told) = (told ≡ budget) × ReachesMore g b budget

-- the moves of a list can be written: each has a text, and how many there are is a number of four bytes
abbrev pub CanBeWritten : Verdict → Type 0
CanBeWritten (Shortest moves) = All HasText moves × (length moves < 2 ^ 32)
CanBeWritten (Won moves floor) = All HasText moves × (length moves < 2 ^ 32)
CanBeWritten cannot_win = Unit {0}
CanBeWritten (GaveUp told) = Unit {0}

-- the moves of a list are no more than a list that is answered may have
abbrev pub HasFewMoves : Verdict → Type 0
HasFewMoves (Shortest moves) = length moves ≤ MOST_MOVES
HasFewMoves (Won moves floor) = length moves ≤ MOST_MOVES
HasFewMoves cannot_win = Unit {0}
HasFewMoves (GaveUp told) = Unit {0}
