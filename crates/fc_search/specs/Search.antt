-- A search of a position's classes as a whole: how it begins, runs and is answered.
use Rattle.std.specs.Prelude.{◌≡◌, ℕ, ◌<◌, ◌≤◌, List, Option, None, Some, length}
use Rattle.fc_position.specs.Board.{Board}
use Rattle.fc_moves.specs.GameRules.{GameRules}
use Rattle.fc_bound.specs.declared.kinds.BoundKind.{BoundKind}
use Rattle.fc_best_first.specs.declared.books.Mark.{Mark}
use Rattle.fc_best_first.specs.declared.turns.Status.{Status}
use Rattle.fc_best_first.specs.declared.turns.Status.TheVariants.{Running, Won, CannotWin, GaveUp, Stopped}
use Rattle.fc_best_first.specs.declared.searches.SearchFault.{SearchFault}
use Rattle.fc_best_first.specs.declared.searches.SearchFault.TheVariants as fault
use Rattle.fc_best_first.specs.Search.{Begins, Progress, Runs}
use Rattle.fc_best_first.specs.Shown.{IsLeastOpen}
use Rattle.fc_best_first.specs.Store.{Store, IsStored}
use Rattle.fc_answers.specs.declared.answers.Answer.{Answer}
use Rattle.fc_answers.specs.declared.answers.Verdict.{Verdict}
use Rattle.fc_answers.specs.declared.answers.Verdict.TheVariants as verdict
use Rattle.fc_answers.specs.Answer.{IsBacked, IsSearchedBy, CanBeBacked}
use Rattle.fc_answers.specs.Verdict.{IsRight, CanBeWritten, HasFewMoves}
use Rattle.fc_search.specs.Need.{IsEarned}
use Rattle.fc_search.specs.Problem.{Problem, task_of_problem}
use Rattle.fc_best_first.specs.Limits.{IsBudget, IsEven}
use Rattle.fc_moves.specs.Run.{IsShortest, ReachesMore, CannotWin as NoneWins}

-- where a search stands: its problem, what it stores and has open, its status, and the greatest cost plus bound, both
-- weighed, that it took
pub record State : Type 0 where
  pub problem : Problem
  pub store : Store (List ℕ)
  pub status : Status (List ℕ)
  pub floor : ℕ

module _ {S : Type 0} where
  -- where a search by classes stands: of this game, settled by this home rule, with this kind of bound, from this start
  abbrev pub state_of : GameRules → ℕ → BoundKind → Board → Progress S (List ℕ) → State
  state_of g rule bound start search = record {
    problem = record {
      game = g;
      method = record { rule = rule; bound = bound; strategy = search.strategy };
      start = start;
      limit = search.limit;
    };
    store = search.store;
    status = search.status;
    floor = search.floor;
  }

-- the verdict is of the kind of the status that a search ends with: by weight 1 as many moves as the won class costs, and
-- by more no more than that, since a class on the way may have been met at less cost after it, with the least that what is open
-- tells; that no list wins; or the budget
abbrev pub IsOfStatus : Problem → Store (List ℕ) → Status (List ℕ) → Verdict → Type 0
IsOfStatus p s (Won number) (verdict.Shortest moves) =
    (x : List ℕ) × (mark : Mark) × IsStored s number x mark × (length moves ≡ mark.cost) × IsEven p.method.strategy.weight
IsOfStatus p s (Won number) (verdict.Won moves floor) =
    (x : List ℕ) × (mark : Mark) × IsStored s number x mark × (length moves ≤ mark.cost) × (p.method.strategy.weight.parts < p.method.strategy.weight.times)
    × IsLeastOpen (task_of_problem p) s mark.cost floor
IsOfStatus p s CannotWin verdict.CannotWin = Unit {0}
IsOfStatus p s (GaveUp y number) (verdict.GaveUp told) = told ≡ p.method.strategy.budget
IsOfStatus p s status verdict = ⊥

-- all that a verdict of a problem is: right, earned, such as can be written, of few moves, and that of an answer that a table
-- of the problem's rule and bound backs, whether or not it was made
pub record IsVerdict (p : Problem) (verdict : Verdict) : Type 0 where
  pub right : IsRight p.game p.method.strategy.weight.parts p.method.strategy.weight.times p.start p.method.strategy.budget verdict
  pub earned : IsEarned p verdict
  pub written : CanBeWritten verdict
  pub few : HasFewMoves verdict
  pub backed : CanBeBacked p.game p.method.rule p.method.bound p.method.strategy.budget p.start verdict

-- all that an answer of a problem is: a verdict that is right, backed by a table of the problem's rule and bound
pub record Answers (p : Problem) (answer : Answer) : Type 0 where
  pub told : IsVerdict p answer.verdict
  pub backed : IsBacked p.game p.start answer
  pub searched : IsSearchedBy p.method.rule p.method.bound p.method.strategy.budget answer

-- one of three verdicts, and right: the moves win and none win in fewer, or no moves win, or the budget is told and more
-- positions than that can be reached
abbrev pub IsOneOfThree : GameRules → Board → ℕ → Verdict → Type 0
IsOneOfThree g b budget (verdict.Shortest moves) = IsShortest g b moves
IsOneOfThree g b budget verdict.CannotWin = NoneWins g b
IsOneOfThree g b budget (verdict.GaveUp told) = (told ≡ budget) × ReachesMore g b budget
IsOneOfThree g b budget (verdict.Won moves floor) = ⊥

-- why a search that is asked for with this budget isn't begun, or not ended: the budget is none; or it is one, and a growth
-- was refused
abbrev pub IsRefused : ℕ → SearchFault → Type 0
IsRefused budget fault.Budget = IsBudget budget → ⊥
IsRefused budget fault.Memory = IsBudget budget
IsRefused budget other = ⊥

-- why a search isn't answered: it has a limit; or it is still running, it was stopped, or it is done and a growth was refused
abbrev pub IsUnanswered : Option ℕ → Status (List ℕ) → SearchFault → Type 0
IsUnanswered (Some limit) status told = told ≡ fault.Limited
IsUnanswered None Running told = told ≡ fault.NotDone
IsUnanswered None Stopped told = told ≡ fault.Stopped
IsUnanswered None done told = told ≡ fault.Memory

-- a search of the problem that began ran on to this store and this status
pub record HasRun (p : Problem) (last : Store (List ℕ)) (status : Status (List ℕ)) : Type 0 where
  pub first : Store (List ℕ)
  pub begins : Begins (task_of_problem p) first
  pub runs : Runs (task_of_problem p) Running first last status

-- the verdict is that of a search of the problem that began, and ran to its end
pub record IsRunToEnd (p : Problem) (verdict : Verdict) : Type 0 where
  pub last : Store (List ℕ)
  pub status : Status (List ℕ)
  pub ran : HasRun p last status
  pub answered : IsOfStatus p last status verdict
