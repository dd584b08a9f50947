-- How much work a verdict needed.
use Rattle.std.specs.Prelude.{◌≡◌, ℕ, ◌+◌, ◌*◌, ◌≤◌, ◌⊎◌, List, length, All, AllPairs}
use Rattle.fc_position.specs.Board.{Board}
use Rattle.fc_moves.specs.declared.steps.Move.{Move}
use Rattle.fc_moves.specs.Run.{Run, Wins}
use Rattle.fc_moves.specs.Step.{Step}
use Rattle.fc_moves.specs.Class.{SameClass}
use Rattle.fc_home.specs.Settles.{Settles}
use Rattle.fc_bound.specs.Kinds.{IsShown}
use Rattle.fc_best_first.specs.declared.strategies.Expansion.{Expansion}
use Rattle.fc_best_first.specs.declared.strategies.Expansion.TheVariants.{Full, Partial}
use Rattle.fc_best_first.specs.Limits.{weigh}
use Rattle.fc_search.specs.Problem.{Problem}
use Rattle.fc_answers.specs.declared.answers.Verdict.{Verdict}
use Rattle.fc_answers.specs.declared.answers.Verdict.TheVariants.{Shortest, Won, CannotWin as cannot_win, GaveUp}

-- the board is what the start settles to
pub record IsSettledStart (p : Problem) (z : Board) : Type 0 where
  pub count : ℕ
  pub settles : Settles p.game p.method.rule p.start count z

-- the moves lead from the start to a settled board, a step leads on, and the board is what its result settles to; and no
-- list that wins, weighed as a bound is, is shorter than those moves and a number that is shown of the settled board, both weighed, by
-- which a search of this kind goes
pub record IsNextChild (p : Problem) (z : Board) : Type 0 where
  pub moves : List Move
  pub parent : Board
  pub led : Run p.game p.start moves parent
  pub settled : Settles p.game p.method.rule parent 0 parent
  pub step : Move
  pub child : Board
  pub stepped : Step p.game parent step child
  pub count : ℕ
  pub settles : Settles p.game p.method.rule child count z
  pub bound : ℕ
  pub note : ℕ
  pub shown : IsShown p.method.bound parent bound note
  pub least : (wins : List Move) → Wins p.game p.start wins
      → weigh p.method.strategy.weight (length moves) bound ≤ p.method.strategy.weight.times * length wins

-- the moves lead from the start to the settled board, and no list that wins, weighed as a bound is, is shorter than those
-- moves and a number that is shown of it, both weighed
pub record IsMetWithin (p : Problem) (z : Board) : Type 0 where
  pub moves : List Move
  pub led : Run p.game p.start moves z
  pub settled : Settles p.game p.method.rule z 0 z
  pub bound : ℕ
  pub note : ℕ
  pub shown : IsShown p.method.bound z bound note
  pub least : (wins : List Move) → Wins p.game p.start wins
      → weigh p.method.strategy.weight (length moves) bound ≤ p.method.strategy.weight.times * length wins

-- the board is needed. By full expansion it is what the start settles to, or such a child; by partial expansion it is met
-- within each list that wins
abbrev pub IsNeededBy : Expansion → Problem → Board → Type 0
IsNeededBy Full p z = IsSettledStart p z ⊎ IsNextChild p z
IsNeededBy Partial p z = IsMetWithin p z

-- the board is needed by the expansion of the problem
abbrev pub IsNeeded : Problem → Board → Type 0
IsNeeded p z = IsNeededBy p.method.strategy.expansion p z

-- more classes than the budget had to be stored, no two of them the same
pub record NeedsMore (p : Problem) : Type 0 where
  pub boards : List Board
  pub count : length boards ≡ p.method.strategy.budget + 1
  pub different : AllPairs (λ x y. SameClass x y → ⊥) boards
  pub needed : All (IsNeeded p) boards

-- giving up was earned: that much work was needed
abbrev pub IsEarned : Problem → Verdict → Type 0
IsEarned p (Shortest moves) = Unit {0}
IsEarned p (Won moves floor) = Unit {0}
IsEarned p cannot_win = Unit {0}
IsEarned p (GaveUp told) = NeedsMore p
