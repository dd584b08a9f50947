-- The best answer that several searches within one budget give.
use Rattle.std.specs.Prelude.{◌≡◌, ◌⊎◌, ℕ, ◌+◌, ◌<◌, ◌≤◌, List, ◌++◌, length, All, Contains, IfSome, None, Some, Ok}
use Rattle.std.specs.List.{sum_by}
use Rattle.fc_position.specs.Board.{Board}
use Rattle.fc_moves.specs.declared.steps.Move.{Move}
use Rattle.fc_moves.specs.GameRules.{GameRules}
use Rattle.fc_moves.specs.Run.{CanReach, CannotWin as NoneWins, IsShortest, ReachesMore, Run, Wins}
use Rattle.fc_bound.specs.declared.kinds.BoundKind.{BoundKind}
use Rattle.fc_bound.specs.declared.kinds.BoundKind.TheVariants.{Plain}
use Rattle.fc_answers.specs.Answer.{IsBackedBy, IsSearchedBy}
use Rattle.fc_answers.specs.declared.answers.Answer.{Answer}
use Rattle.fc_answers.specs.declared.answers.Verdict.{Verdict}
use Rattle.fc_answers.specs.declared.answers.Verdict.TheVariants.{Shortest, Won, CannotWin, GaveUp}
use Rattle.fc_answers.specs.Verdict.{CanBeWritten, HasFewMoves}
use Rattle.fc_best_first.specs.Limits.{IsGreatBudget, IsWeight}
use Rattle.fc_best_first.specs.Search.{reply_of}
use Rattle.fc_best_first.specs.declared.searches.Step.TheVariants.{Done}
use Rattle.fc_best_first.specs.declared.turns.Status.TheVariants as status
use Rattle.fc_methods.specs.Method.{QuestionData}
use Rattle.fc_search.specs.Need.{NeedsMore}
use Rattle.fc_search.specs.Search.{HasRun, State}
use Rattle.fc_search.specs.Shown.{HasFound, HasShown}

-- no list that wins has fewer moves
abbrev pub IsFloor : GameRules → Board → ℕ → Type 0
IsFloor g b floor = (moves : List Move) → Wins g b moves → floor ≤ length moves

-- the verdict is right: the moves win and none win in fewer; or they win, and the floor is one, and less than they are; or none
-- win; or no more than the budget is told, and more positions than that can be reached
abbrev pub IsBest : GameRules → Board → ℕ → Verdict → Type 0
IsBest g b budget (Shortest moves) = IsShortest g b moves
IsBest g b budget (Won moves floor) = Wins g b moves × IsFloor g b floor × (floor < length moves)
IsBest g b budget CannotWin = NoneWins g b
IsBest g b budget (GaveUp told) = (told ≤ budget) × ReachesMore g b told

-- a search ran to its end: from the first store of its problem to what it stores then
pub record HasEnded (ended : State) : Type 0 where
  pub ran : HasRun ended.problem ended.store ended.status
  pub done : reply_of ended.status ≡ Ok Done

-- a search of the question goes by its bound, or by the plain one
abbrev pub IsBoundOf : QuestionData → BoundKind → Type 0
IsBoundOf q kind = (kind ≡ q.method.bound) ⊎ (kind ≡ Plain)

-- it is one from the board by the question's game and home rule, and by its bound or the plain one, with a weight and a budget that
-- searches may have, which ran to its end
pub record IsOfQuestion (q : QuestionData) (b : Board) (ended : State) : Type 0 where
  pub game : ended.problem.game ≡ q.game
  pub start : ended.problem.start ≡ b
  pub rule : ended.problem.method.rule ≡ q.method.rule
  pub bound : IsBoundOf q ended.problem.method.bound
  pub weight : IsWeight ended.problem.method.strategy.weight
  pub budget : IsGreatBudget ended.problem.method.strategy.budget
  pub over : HasEnded ended

-- it is one from a board that can be reached from the board, by the question's game, home rule and bound, with a weight and a budget
-- that searches may have, which ran to its end
pub record IsOnTheWay (q : QuestionData) (b : Board) (ended : State) : Type 0 where
  pub game : ended.problem.game ≡ q.game
  pub start : CanReach q.game b ended.problem.start
  pub rule : ended.problem.method.rule ≡ q.method.rule
  pub bound : ended.problem.method.bound ≡ q.method.bound
  pub weight : IsWeight ended.problem.method.strategy.weight
  pub budget : IsGreatBudget ended.problem.method.strategy.budget
  pub over : HasEnded ended

-- how many classes searches store, all told
abbrev pub stored_by : List State → ℕ
stored_by searches = sum_by (λ ended. length ended.store.stored) searches

-- one of the searches found the list
pub record IsFoundBy (searches : List State) (moves : List Move) : Type 0 where
  pub one : State
  pub of_these : Contains searches one
  pub found : HasFound one (Some moves)

-- the list rests on the searches: one from the board found it; or it is a list that rests on them with a shorter tail, which one
-- from the board where the tail begins found
pub data IsListOf (g : GameRules) (b : Board) (searches tails : List State) : List Move → Type 0 where
  of_search : (moves : List Move) → IsFoundBy searches moves → IsListOf g b searches tails moves
  of_tail : (moves front old tail : List Move) (one : State) → moves ≡ front ++ tail → IsListOf g b searches tails (front ++ old)
      → length tail < length old → Contains tails one → Run g b front one.problem.start → HasFound one (Some tail)
      → IsListOf g b searches tails moves

-- one of the searches, which goes by the question's bound, shows that no list that wins has fewer moves than so many
pub record IsFloorOf (q : QuestionData) (searches : List State) (floor : ℕ) : Type 0 where
  pub one : State
  pub of_these : Contains searches one
  pub bound : one.problem.method.bound ≡ q.method.bound
  pub shown : HasShown one (Some floor)

-- one of the searches shows that none wins
pub record IsLostBy (searches : List State) : Type 0 where
  pub one : State
  pub of_these : Contains searches one
  pub shown : HasShown one None

-- the search gave up
abbrev pub HasGivenUp : State → Type 0
HasGivenUp ended = (class : List ℕ) × (number : ℕ) × (ended.status ≡ status.GaveUp class number)

-- each of the searches gave up; and one of them, whose budget is told, needed more classes than that
pub record HaveGivenUp (searches : List State) (told : ℕ) : Type 0 where
  pub each : All HasGivenUp searches
  pub one : State
  pub of_these : Contains searches one
  pub budgeted : one.problem.method.strategy.budget ≡ told
  pub earned : NeedsMore one.problem

-- what the verdict rests on: a list, on the searches that found it and its tails; its floor, or that none is shorter, on one that
-- shows it; that none wins, on one that shows that; giving up, that each of those from the board did
abbrev pub RestsOn : QuestionData → Board → List State → List State → Verdict → Type 0
RestsOn q b searches tails (Shortest moves) = IsListOf q.game b searches tails moves × IsFloorOf q searches (length moves)
RestsOn q b searches tails (Won moves floor) = IsListOf q.game b searches tails moves × IsFloorOf q searches floor
RestsOn q b searches tails CannotWin = IsLostBy searches
RestsOn q b searches tails (GaveUp told) = HaveGivenUp searches told

-- the verdict rests on searches of the question from the board, and on others from boards on the way, for shorter tails of a list;
-- they store no more classes than the budget, all told
pub record IsOfSearches (q : QuestionData) (b : Board) (verdict : Verdict) : Type 0 where
  pub searches : List State
  pub tails : List State
  pub asked : All (IsOfQuestion q b) searches
  pub middle : All (IsOnTheWay q b) tails
  pub spent : stored_by searches + stored_by tails ≤ q.method.strategy.budget
  pub rests : RestsOn q b searches tails verdict

-- all that a best verdict is: right, of searches within the budget, such as can be written, and of few moves
pub record IsBestVerdict (q : QuestionData) (b : Board) (verdict : Verdict) : Type 0 where
  pub right : IsBest q.game b q.method.strategy.budget verdict
  pub searched : IsOfSearches q b verdict
  pub written : CanBeWritten verdict
  pub few : HasFewMoves verdict

-- all that the best answer is: a best verdict, backed by its table, where one was made, which is of the question's home rule and
-- bound
pub record IsBestAnswer (q : QuestionData) (b : Board) (answer : Answer) : Type 0 where
  pub told : IsBestVerdict q b answer.verdict
  pub backed : IfSome answer.table (IsBackedBy q.game b answer.verdict)
  pub tabled : IsSearchedBy q.method.rule q.method.bound q.method.strategy.budget answer
