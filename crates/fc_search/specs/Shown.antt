-- What a search that is done shows, whether or not it has a limit.
use Rattle.std.specs.Prelude.{◌≡◌, ℕ, ◌+◌, ◌*◌, ◌<◌, ◌≤◌, List, length, min, All, Option, Some, None, MatchOption}
use Rattle.fc_moves.specs.declared.steps.Move.{Move}
use Rattle.fc_moves.specs.MoveText.{HasText}
use Rattle.fc_moves.specs.Run.{Wins}
use Rattle.fc_answers.specs.declared.answers.TheConstants.{MOST_MOVES}
use Rattle.fc_answers.specs.Answer.{IsBackedBelow, IsBackedWhole}
use Rattle.fc_answers.specs.Table.{Listing}
use Rattle.fc_best_first.specs.declared.books.Mark.{Mark}
use Rattle.fc_best_first.specs.declared.turns.Status.{Status}
use Rattle.fc_best_first.specs.declared.turns.Status.TheVariants.{Won, CannotWin, GaveUp}
use Rattle.fc_best_first.specs.Shown.{IsLeastOpen, TellsAt}
use Rattle.fc_best_first.specs.Store.{IsStored, bound_at}
use Rattle.fc_search.specs.Problem.{Problem, task_of_problem}
use Rattle.fc_search.specs.Search.{State}

-- the list wins, has no more moves than the class with this number costs, and is within the weight: so many parts of its moves
-- are no more than so many times those of any list that wins; and each of its moves has a text
pub record IsFoundAt (s : State) (number : ℕ) (moves : List Move) : Type 0 where
  pub class : List ℕ
  pub mark : Mark
  pub stands : IsStored s.store number class mark
  pub few : length moves ≤ mark.cost
  pub wins : Wins s.problem.game s.problem.start moves
  pub least : (others : List Move) → Wins s.problem.game s.problem.start others
      → s.problem.method.strategy.weight.parts * length moves ≤ s.problem.method.strategy.weight.times * length others
  pub written : All HasText moves
  pub short : length moves ≤ MOST_MOVES

-- a search that ended with a won class has found a list, another one none
abbrev pub HasFoundBy : State → Status (List ℕ) → Option (List Move) → Type 0
HasFoundBy s (Won number) (Some moves) = IsFoundAt s number moves
HasFoundBy s (Won number) None = ⊥
HasFoundBy s status (Some moves) = ⊥
HasFoundBy s status None = Unit {0}

-- what the search has found, by its status
abbrev pub HasFound : State → Option (List Move) → Type 0
HasFound s found = HasFoundBy s s.status found

-- the number, but the limit where there is one that is lower
abbrev pub number_within : Option ℕ → ℕ → ℕ
number_within None n = n
number_within (Some limit) n = min n limit

-- the number is the least that what is open tells, and no more than the class with this number costs and what is noted of it, nor than
-- the limit
abbrev pub IsFloorBut : State → ℕ → ℕ → Type 0
IsFloorBut s number floor = (class : List ℕ) × (mark : Mark) × IsStored s.store number class mark
    × IsLeastOpen (task_of_problem s.problem) s.store (number_within s.problem.limit (mark.cost + bound_at s.store number)) floor

-- the number is the least that what is open tells, and no more than what the class with this number tells, nor than the limit
abbrev pub IsFloorAt : State → ℕ → ℕ → Type 0
IsFloorAt s number floor = (most : ℕ) × TellsAt (task_of_problem s.problem) s.store number most
    × IsLeastOpen (task_of_problem s.problem) s.store (number_within s.problem.limit most) floor

-- a search by whose status no list that is wanted wins shows its limit, which none is below, or, where it has none, that none
-- wins; one that ended with a won class the least that what is open tells, and that class; one that ended with a class whose child
-- it had no place for the same, as that class tells it; another one the greatest cost and bound that it took, in moves, rounded up
abbrev pub HasShownBy : State → Status (List ℕ) → Option ℕ → Type 0
HasShownBy s CannotWin shown = shown ≡ s.problem.limit
HasShownBy s (Won number) shown = (floor : ℕ) × (shown ≡ Some floor) × IsFloorBut s number floor
HasShownBy s (GaveUp y number) shown = (floor : ℕ) × (shown ≡ Some floor) × IsFloorAt s number floor
HasShownBy s status shown = (floor : ℕ) × (shown ≡ Some floor) × (s.floor ≤ s.problem.method.strategy.weight.times * floor)
    × (s.problem.method.strategy.weight.times * floor < s.floor + s.problem.method.strategy.weight.times)

-- what the search shows, by its status
abbrev pub HasShown : State → Option ℕ → Type 0
HasShown s shown = HasShownBy s s.status shown

-- the table shows what a search of the problem has shown: that no list that wins is below the number, or that none wins
abbrev pub BacksShown : Problem → Option ℕ → Listing → Type 0
BacksShown p shown table = MatchOption shown (IsBackedWhole p.game p.start table) (λ floor. IsBackedBelow p.game p.start floor table)
