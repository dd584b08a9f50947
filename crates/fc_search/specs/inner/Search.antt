-- A search of a position's classes as a whole: how it begins, runs and is answered, within the crate.
use Rattle.std.specs.Prelude.{◌≡◌, ℕ, List}
use Rattle.fc_best_first.specs.declared.books.Mark.{Mark}
use Rattle.fc_best_first.specs.Shown.{IsLeastOpen}
use Rattle.fc_best_first.specs.Store.{IsStored}
use Rattle.fc_position.specs.Board.{Board}
use Rattle.fc_answers.specs.declared.answers.Verdict.{Verdict}
use Rattle.fc_codes.specs.Spelled.{board_of_code}
use Rattle.fc_classes.specs.Namings.{IsName, by_codes}
use Rattle.fc_search.specs.Problem.{task_of_problem}
use Rattle.fc_search.specs.Search.{IsOfStatus, IsVerdict, State}

-- the number is the least that what a search has open tells, and no more than the class with this number costs
abbrev pub IsFloorOf : State → ℕ → ℕ → Type 0
IsFloorOf s number floor = (x : List ℕ) × (mark : Mark) × IsStored s.store number x mark
    × IsLeastOpen (task_of_problem s.problem) s.store mark.cost floor

-- the verdict is one of the search's problem, and of the kind of the status that it ended with
abbrev pub IsVerdictOf : State → Verdict → Type 0
IsVerdictOf s verdict = IsVerdict s.problem verdict × IsOfStatus s.problem s.store s.status verdict

-- the code is stored under the number with this mark and names a class, and the board is what it spells
pub record Spells (s : State) (number : ℕ) (b : Board) (code : List ℕ) (mark : Mark) : Type 0 where
  pub stands : IsStored s.store number code mark
  pub board : b ≡ board_of_code s.problem.start code
  pub name : IsName (by_codes s.problem.start) s.problem.game code
