-- What a search holds by its status, and what one that is done shows.
use Rattle.std.specs.Prelude.{◌≡◌, ℕ, ◌+◌, ◌*◌, ◌<◌, ◌≤◌, ◌⊎◌, List, Contains, length, slice_get, Some}
use Rattle.fc_best_first.specs.declared.books.Mark.{Mark}
use Rattle.fc_best_first.specs.declared.turns.Status.{Status}
use Rattle.fc_best_first.specs.declared.turns.Status.TheVariants.{Running, Won, CannotWin, GaveUp, Stopped}
use Rattle.fc_best_first.specs.Graph.{Graph, Task, IsReached}
use Rattle.fc_best_first.specs.Limits.{Ratio, ReachesLimit}
use Rattle.fc_best_first.specs.Store.{Store, IsStored, IsNew, bound_at, weighed_cost}
use Rattle.fc_best_first.specs.Kept.{IsWhereOpen, IsSound, IsKept, IsDone, IsExpanded, IsOpenOrExpanded, IsNeeded, f_of}

module _ {K : Type 0} where
  -- no answer, weighed as a bound is, is below it
  abbrev pub IsFloor : Graph K → Ratio → ℕ → Type 0
  IsFloor g weight floor = (n : ℕ) → g.wins n → floor ≤ weight.times * n

  -- each stored key but the one with this number is open or expanded
  abbrev pub AreSettledBut : Task K → Store K → ℕ → Type 0
  AreSettledBut task s number = (i : ℕ) (y : K) (m : Mark) → (i ≡ number → ⊥) → IsStored s i y m → IsOpenOrExpanded task s i y m

  -- a won key is stored under this number, each key whose cost plus what is noted of it, both weighed, is below its weighed cost is done with below
  -- that, and each other key is open or expanded
  abbrev pub IsFound : Task K → Store K → ℕ → Type 0
  IsFound task s number = IsSound task s
      × ((x : K) × (mark : Mark) × IsStored s number x mark × task.graph.won x
      × ((i : ℕ) (y : K) (m : Mark) → IsStored s i y m → f_of task s i m < weighed_cost task.strategy mark
      → IsDone task.strategy.expansion task s y m.cost (weighed_cost task.strategy mark))
      × AreSettledBut task s number)

  -- each stored key is expanded
  abbrev pub IsExhausted : Task K → Store K → Type 0
  IsExhausted task s = IsSound task s
      × ((i : ℕ) (y : K) (m : Mark) → IsStored s i y m → IsExpanded task s y m.cost)

  -- the key with this number is where it was taken, and done with below that, if that is more than its cost plus what is noted of it, both weighed
  pub record IsTakenAt (task : Task K) (s : Store K) (number : ℕ) (x : K) (mark : Mark) (f : ℕ) : Type 0 where
    pub stands : IsStored s number x mark
    pub at : IsWhereOpen s number (weighed_cost task.strategy mark) f
    pub done : f_of task s number mark < f → IsDone task.strategy.expansion task s x mark.cost f

  -- as many keys as the budget are stored, one more came by needed work from the key with this number, which was taken, and each
  -- other key is open or expanded
  abbrev pub IsGivenUp : Task K → Store K → K → ℕ → Type 0
  IsGivenUp task s y number = IsSound task s × (task.strategy.budget ≤ length s.stored) × IsNew s y
      × IsNeeded task.strategy.expansion task.graph task.strategy.weight y
      × ((x : K) × (mark : Mark) × (c : ℕ) × (f : ℕ) × IsTakenAt task s number x mark f × task.graph.edge x c y)
      × AreSettledBut task s number

  -- what a search holds by its status
  abbrev pub Holds : Task K → Store K → Status K → Type 0
  Holds task s Running = IsKept task s
  Holds task s (Won number) = IsFound task s number
  Holds task s CannotWin = IsExhausted task s
  Holds task s (GaveUp y number) = IsGivenUp task s y number
  Holds task s Stopped = Unit {0}

  -- different keys, so many, each of which came by needed work
  pub record AreNeeded (task : Task K) (count : ℕ) (keys : List K) : Type 0 where
    pub many : length keys ≡ count
    pub once : (i j : ℕ) (x : K) → slice_get keys i ≡ Some x → slice_get keys j ≡ Some x → i ≡ j
    pub needed : (i : ℕ) (x : K) → slice_get keys i ≡ Some x
        → IsNeeded task.strategy.expansion task.graph task.strategy.weight x

  -- what a search shows by its status: the cost of the won key is an answer, and, weighed, no more than each answer is, weighed
  -- as a bound is; there is no answer, or where there is a limit none that doesn't reach it; or one key more than the budget
  -- came by needed work
  abbrev pub Shows : Task K → Store K → Status K → Type 0
  Shows task s Running = Unit {0}
  Shows task s (Won number) = (x : K) × (mark : Mark) × IsStored s number x mark × task.graph.won x × IsReached task.graph x mark.cost
      × task.graph.wins mark.cost × ((n : ℕ) → task.graph.wins n → weighed_cost task.strategy mark ≤ task.strategy.weight.times * n)
  Shows task s CannotWin = (n : ℕ) → task.graph.wins n → ReachesLimit task.limit n
  Shows task s (GaveUp y number) = (keys : List K) × AreNeeded task (task.strategy.budget + 1) keys
  Shows task s Stopped = Unit {0}

  -- a number is no more than what a key tells that is open at f: its cost plus what is noted of it, or f over how many times a bound
  -- counts, rounded up
  abbrev pub IsUnder : Task K → Store K → ℕ → Mark → ℕ → ℕ → Type 0
  IsUnder task s number mark f n = (n ≤ mark.cost + bound_at s number)
      ⊎ (task.strategy.weight.times * n < f + task.strategy.weight.times)

  -- a number is what a key tells that is open at f: no less than either, and no more than both
  pub record IsTold (task : Task K) (s : Store K) (number : ℕ) (mark : Mark) (f told : ℕ) : Type 0 where
    pub own : mark.cost + bound_at s number ≤ told
    pub weighed : f ≤ task.strategy.weight.times * told
    pub under : IsUnder task s number mark f told

  -- the number is what the key with this one tells, by where it is open
  abbrev pub TellsAt : Task K → Store K → ℕ → ℕ → Type 0
  TellsAt task s number told = (x : K) × (mark : Mark) × (f : ℕ) × IsStored s number x mark
      × IsWhereOpen s number (weighed_cost task.strategy mark) f × IsTold task s number mark f told

  -- the key with this number and mark is open at f
  pub record IsOpen (task : Task K) (s : Store K) (number : ℕ) (x : K) (mark : Mark) (f : ℕ) : Type 0 where
    pub stands : IsStored s number x mark
    pub at : IsWhereOpen s number (weighed_cost task.strategy mark) f
    pub waits : Contains s.waiting (f, number)

  -- the least that the open keys tell, at most a number
  pub record IsLeastOpen (task : Task K) (s : Store K) (most floor : ℕ) : Type 0 where
    pub within : floor ≤ most
    pub least : (number : ℕ) (x : K) (mark : Mark) (f : ℕ) → IsOpen task s number x mark f → IsUnder task s number mark f floor
    pub met : (floor ≡ most)
        ⊎ ((number : ℕ) × (x : K) × (mark : Mark) × (f : ℕ) × IsOpen task s number x mark f × IsTold task s number mark f floor)
