-- What one search of several has found and shown.
use Rattle.std.specs.Prelude.{◌≡◌, ℕ, ◌<◌, ◌≤◌, List, All, Option, Some, None, IfSome, MatchOption, length}
use Rattle.fc_position.specs.Board.{Board}
use Rattle.fc_moves.specs.declared.steps.Move.{Move}
use Rattle.fc_moves.specs.GameRules.{GameRules}
use Rattle.fc_moves.specs.MoveText.{HasText}
use Rattle.fc_moves.specs.Run.{CannotWin, ReachesMore, Wins}
use Rattle.fc_bound.specs.declared.kinds.BoundKind.{BoundKind}
use Rattle.fc_answers.specs.Answer.{IsBackedBelow, IsBackedWhole}
use Rattle.fc_answers.specs.Table.{Listing}
use Rattle.fc_answers.specs.declared.answers.TheConstants.{MOST_MOVES}
use Rattle.fc_best.specs.declared.attempts.Attempt.{Attempt}
use Rattle.fc_best.specs.declared.attempts.Shown.{Shown}
use Rattle.fc_best.specs.Best.{HasGivenUp, IsFloor, IsOfQuestion}
use Rattle.fc_best_first.specs.Limits.{IsGreatBudget, IsWeight}
use Rattle.fc_methods.specs.Method.{QuestionData}
use Rattle.fc_search.specs.Need.{NeedsMore}
use Rattle.fc_search.specs.Problem.{problem_below}
use Rattle.fc_search.specs.Search.{HasRun, State}
use Rattle.fc_search.specs.Shown.{BacksShown, HasFound, HasShown}

-- the list wins, and can be written: each of its moves has a text, and they are no more than a list that is answered may have
pub record IsGoodList (g : GameRules) (b : Board) (moves : List Move) : Type 0 where
  pub wins : Wins g b moves
  pub written : All HasText moves
  pub few : length moves ≤ MOST_MOVES

-- what is shown of all lists that win: that none is below the number, or that there is none
abbrev pub IsShown : GameRules → Board → Option ℕ → Type 0
IsShown g b shown = MatchOption shown (CannotWin g b) (IsFloor g b)

-- the table, by the question's home rule and bound, shows it
pub record IsTableOf (q : QuestionData) (b : Board) (shown : Option ℕ) (table : Listing) : Type 0 where
  pub rule : table.rule ≡ q.method.rule
  pub bound : table.bound ≡ q.method.bound
  pub few : length table.rows ≤ q.method.strategy.budget
  pub backed : MatchOption shown (IsBackedWhole q.game b table) (λ floor. IsBackedBelow q.game b floor table)

-- what a search of the question showed is so, and its table, where one was made, shows it
abbrev pub IsEnd : QuestionData → Board → Shown → Type 0
IsEnd q b end = IsShown q.game b end.floor × IfSome end.table (IsTableOf q b end.floor)

-- the floor that was shown, if one was
abbrev pub floor_of : Option Shown → Option ℕ
floor_of None = None
floor_of (Some end) = end.floor

-- it is shown that none wins
abbrev pub ShowsNone : Option Shown → Type 0
ShowsNone shown = (end : Shown) × (shown ≡ Some end) × (end.floor ≡ None)

-- a question's weight and budget are such as searches may have
pub record IsInRange (q : QuestionData) : Type 0 where
  pub weight : IsWeight q.method.strategy.weight
  pub budget : IsGreatBudget q.method.strategy.budget

-- a search of the question from the board, below a limit if there is one, ran to where it stands
pub record IsRunBelow (q : QuestionData) (b : Board) (limit : Option ℕ) (s : State) : Type 0 where
  pub asked : s.problem ≡ problem_below q b limit
  pub ran : HasRun (problem_below q b limit) s.store s.status
  pub range : IsInRange q

-- what is shown has no table
abbrev pub HasNoTable : Option Shown → Type 0
HasNoTable shown = IfSome shown (λ end. end.table ≡ None)

-- where both are floors, the new one is greater
abbrev pub Raises : Option ℕ → Option ℕ → Type 0
Raises least floor = IfSome least (λ n. IfSome floor (λ m. n < m))

-- a search gave up with the budget that is told, and needed more
pub record IsGivenUp (g : GameRules) (b : Board) (ended : State) (told : ℕ) : Type 0 where
  pub gave_up : HasGivenUp ended
  pub budgeted : ended.problem.method.strategy.budget ≡ told
  pub earned : NeedsMore ended.problem
  pub more : ReachesMore g b told

-- the list is a good one that the search found
abbrev pub IsFoundIn : GameRules → Board → State → List Move → Type 0
IsFoundIn g b ended moves = IsGoodList g b moves × HasFound ended (Some moves)

-- what the search showed is so
abbrev pub IsShownIn : QuestionData → Board → State → Shown → Type 0
IsShownIn q b ended end = IsEnd q b end × HasShown ended end.floor

-- what a search shows where it stands, and its table, where one was made, shows it
pub record IsShownAt (s : State) (end : Shown) : Type 0 where
  pub shown : HasShown s end.floor
  pub so : IsShown s.problem.game s.problem.start end.floor
  pub backs : IfSome end.table (BacksShown s.problem end.floor)
  pub searched : IfSome end.table (λ t. (t.rule ≡ s.problem.method.rule) × (t.bound ≡ s.problem.method.bound) × (length t.rows ≤ s.problem.method.strategy.budget))

-- what a search of the question by this kind of bound from the board, below this limit if there is one, has found and shown is so; a
-- floor is by the question's bound; and where it neither found a list nor gave up nor had a limit, it shows that none wins
pub record IsAttempt (q : QuestionData) (kind : BoundKind) (b : Board) (limit : Option ℕ) (attempt : Attempt) : Type 0 where
  pub ended : State
  pub asked : IsOfQuestion q b ended
  pub by_kind : ended.problem.method.bound ≡ kind
  pub limited : ended.problem.limit ≡ limit
  pub list : IfSome attempt.list (IsFoundIn q.game b ended)
  pub shown : IfSome attempt.shown (IsShownIn q b ended)
  pub bound : IfSome attempt.shown (λ end. IfSome end.floor (λ floor. kind ≡ q.method.bound))
  pub stored : attempt.stored ≡ length ended.store.stored
  pub room : attempt.stored ≤ q.method.strategy.budget
  pub given_up : IfSome attempt.given_up (λ told. IsGivenUp q.game b ended told × (told ≤ q.method.strategy.budget))
  pub none : attempt.list ≡ None → attempt.given_up ≡ None → limit ≡ None → ShowsNone attempt.shown
