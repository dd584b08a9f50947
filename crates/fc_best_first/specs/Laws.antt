-- What the laws of this crate state.
use Rattle.std.specs.Prelude.{◌≡◌, ℕ, ◌+◌, ◌<◌, ◌≤◌, Option}
use Rattle.fc_best_first.specs.declared.books.Mark.{Mark}
use Rattle.fc_best_first.specs.declared.strategies.Strategy.{Strategy}
use Rattle.fc_best_first.specs.Graph.{Graph, IsLawful, task_by}
use Rattle.fc_best_first.specs.Limits.{IsUpTo}
use Rattle.fc_best_first.specs.Store.{Store, IsStored, bound_at}
use Rattle.fc_best_first.specs.Kept.{IsCoveredBelow, IsDone, IsSound, f_of}
use Rattle.fc_best_first.specs.Shown.{AreSettledBut, IsLeastOpen, IsUnder}
use Rattle.fc_best_first.specs.declared.limits.TheConstants.{MOST_BUDGET, MOST_GREAT_BUDGET, MOST_WEIGHT, TENTHS}

module _ {K : Type 0} where
  -- each stored key but one is open or expanded, as in a search that found a won key or gave up, and that one is done with below some
  -- f: then each whose cost plus what is noted of it is below the least that the open ones tell, and that one, is covered below it; and no answer is
  -- below it
  abbrev pub OpenFloorsHold : Graph K → Type 0
  OpenFloorsHold g = IsLawful g → (strategy : Strategy) (limit : Option ℕ) (s : Store K) (number : ℕ) (x : K) (mark : Mark)
      (f most floor : ℕ) → strategy.weight.parts ≤ strategy.weight.times
      → IsSound (task_by g strategy limit) s
      → AreSettledBut (task_by g strategy limit) s number → IsStored s number x mark
      → IsUnder (task_by g strategy limit) s number mark f most
      → (f_of (task_by g strategy limit) s number mark < f
      → IsDone strategy.expansion (task_by g strategy limit) s x mark.cost f)
      → IsLeastOpen (task_by g strategy limit) s most floor → IsUpTo limit floor
      → ((i : ℕ) (y : K) (m : Mark) → IsStored s i y m → m.cost + bound_at s i < floor → IsCoveredBelow g s y m.cost floor)
      × ((n : ℕ) → g.wins n → floor ≤ n)

-- the greatest budgets, in stored keys; the greatest weight; and in how many parts a weight is told
abbrev pub NumbersAreTold : Type 0
NumbersAreTold = (MOST_BUDGET ≡ 4000000) × (MOST_GREAT_BUDGET ≡ 16000000) × (MOST_WEIGHT ≡ 10) × (TENTHS ≡ 10)
