-- What a search for a shorter tail of a list has found.
use Rattle.std.specs.Prelude.{◌≡◌, ℕ, ◌<◌, ◌≤◌, ◌+◌, List, ◌++◌, Option, Some, IfSome, MatchOption, length}
use Rattle.fc_position.specs.Board.{Board}
use Rattle.fc_moves.specs.declared.steps.Move.{Move}
use Rattle.fc_moves.specs.GameRules.{GameRules}
use Rattle.fc_moves.specs.Run.{Run}
use Rattle.fc_best.specs.declared.tails.Tail.{Tail}
use Rattle.fc_best.specs.Best.{IsOnTheWay}
use Rattle.fc_best.specs.inner.Attempt.{IsGoodList}
use Rattle.fc_best.specs.inner.Watch.{IsFurther}
use Rattle.fc_best.specs.declared.standings.Standing.{Standing}
use Rattle.fc_best.specs.inner.Standing.{with_share}
use Rattle.fc_best_first.specs.Limits.{Ratio}
use Rattle.fc_methods.specs.Method.{QuestionData}
use Rattle.fc_search.specs.Search.{State}
use Rattle.fc_search.specs.Shown.{HasFound}

-- the list is the old one with a shorter tail, which the search found from where the tail begins
pub record HasTailOf (g : GameRules) (b : Board) (all : List Move) (ended : State) (made : List Move) : Type 0 where
  pub front : List Move
  pub old : List Move
  pub tail : List Move
  pub before : all ≡ front ++ old
  pub after : made ≡ front ++ tail
  pub shorter : length tail < length old
  pub there : Run g b front ended.problem.start
  pub found : HasFound ended (Some tail)

-- a search of the question from a board that can be reached stored so many classes, and the list that it made of this one is good
pub record IsTail (q : QuestionData) (b : Board) (all : List Move) (tail : Tail) : Type 0 where
  pub ended : State
  pub asked : IsOnTheWay q b ended
  pub list : IfSome tail.list (λ made. IsGoodList q.game b made × HasTailOf q.game b all ended made)
  pub stored : tail.stored ≡ length ended.store.stored
  pub room : tail.stored ≤ q.method.strategy.budget

-- it is one for the list of what is so far, by a weight and within a share of what is left but for one class
pub record IsTailFor (q : QuestionData) (b : Board) (standing : Standing) (tail : Tail) : Type 0 where
  pub all : List Move
  pub best : standing.list ≡ Some all
  pub weight : Ratio
  pub share : ℕ
  pub most : share + 1 ≤ standing.left
  pub is : IsTail (with_share q weight share) b all tail
  pub far : IsFurther standing.far tail.far

-- the moves with the end that was found, where it has fewer than so many; none where it hasn't, or there is none
abbrev pub IsWithEnd : List Move → Option (List Move) → ℕ → Option (List Move) → Type 0
IsWithEnd front end limit made = MatchOption made (IfSome end (λ moves. limit ≤ length moves))
    (λ list. (moves : List Move) × (end ≡ Some moves) × (list ≡ front ++ moves) × (length moves < limit))
