-- What limits a search: how often costs and bounds may count, and how many keys may be stored.
use Rattle.std.specs.Prelude.{◌≡◌, ℕ, ◌+◌, ◌*◌, ◌<◌, ◌≤◌, Option, Some, None}
use Rattle.fc_best_first.specs.declared.limits.TheConstants.{MOST_BUDGET, MOST_GREAT_BUDGET, MOST_WEIGHT, TENTHS}

-- how a search weighs: a cost counts so many times as there are parts, and a bound so many times
pub record Ratio : Type 0 where
  pub parts : ℕ
  pub times : ℕ

-- what a cost and a bound come to, as they are weighed
abbrev pub weigh : Ratio → ℕ → ℕ → ℕ
weigh weight cost bound = weight.parts * cost + weight.times * bound

-- a bound counts no less than a cost, and no more than MOST_WEIGHT times as much
pub record IsWeight (weight : Ratio) : Type 0 where
  pub least : 1 ≤ weight.parts
  pub most : weight.parts ≤ TENTHS
  pub above : weight.parts ≤ weight.times
  pub greatest : weight.times ≤ MOST_WEIGHT * weight.parts

-- a bound counts as often as a cost
abbrev pub IsEven : Ratio → Type 0
IsEven weight = weight.times ≡ weight.parts

-- the number reaches the limit, if there is one
abbrev pub ReachesLimit : Option ℕ → ℕ → Type 0
ReachesLimit None n = ⊥
ReachesLimit (Some limit) n = limit ≤ n

-- the number is below the limit, if there is one
abbrev pub IsBelowLimit : Option ℕ → ℕ → Type 0
IsBelowLimit None n = Unit {0}
IsBelowLimit (Some limit) n = n < limit

-- the number is no more than the limit so many times over, if there is one
abbrev pub IsWithinLimit : Option ℕ → ℕ → ℕ → Type 0
IsWithinLimit None times n = Unit {0}
IsWithinLimit (Some limit) times n = n ≤ times * limit

-- the number is no more than the limit, if there is one
abbrev pub IsUpTo : Option ℕ → ℕ → Type 0
IsUpTo None n = Unit {0}
IsUpTo (Some limit) n = n ≤ limit

-- so many keys may be stored where one search is asked for
pub record IsBudget (budget : ℕ) : Type 0 where
  pub least : 1 ≤ budget
  pub greatest : budget ≤ MOST_BUDGET

-- so many keys may be stored at all
pub record IsGreatBudget (budget : ℕ) : Type 0 where
  pub least : 1 ≤ budget
  pub greatest : budget ≤ MOST_GREAT_BUDGET
