-- What a search keeps from turn to turn.
use Rattle.std.specs.Prelude.{◌≡◌, ℕ, ◌+◌, ◌*◌, ◌≤◌, ◌⊎◌, length, slice_get, Option, Some, None, Contains}
use Rattle.fc_best_first.specs.declared.books.Mark.{Mark}
use Rattle.fc_best_first.specs.declared.books.Opening.{Opening}
use Rattle.fc_best_first.specs.declared.strategies.Expansion.{Expansion}
use Rattle.fc_best_first.specs.declared.strategies.Expansion.TheVariants.{Full, Partial}
use Rattle.fc_best_first.specs.declared.turns.TheConstants.{MOST_SPARE}
use Rattle.fc_best_first.specs.Graph.{Graph, Task, IsReached}
use Rattle.fc_best_first.specs.Limits.{Ratio, ReachesLimit, weigh}
use Rattle.fc_best_first.specs.Store.{Store, IsStored, bound_at, opens_at, weighed_cost}

module _ {K : Type 0} where
  -- the key is stored at no more than this cost
  abbrev pub HasAt : Store K → K → ℕ → Type 0
  HasAt s y cost = (number : ℕ) × (mark : Mark) × IsStored s number y mark × (mark.cost ≤ cost)

  -- the key is stored at no more than this cost; or, where there is a limit, this cost plus its bound reaches that
  abbrev pub IsMet : Option ℕ → Graph K → Store K → K → ℕ → Type 0
  IsMet None g s y cost = HasAt s y cost
  IsMet (Some limit) g s y cost = HasAt s y cost ⊎ (limit ≤ cost + g.bound y)

  -- the key isn't won, and the end of each of its edges is met at this cost and the edge's
  abbrev pub IsExpanded : Task K → Store K → K → ℕ → Type 0
  IsExpanded task s x cost = (task.graph.won x → ⊥)
      × ((c : ℕ) (y : K) → task.graph.edge x c y → IsMet task.limit task.graph s y (cost + c))

  -- the key isn't won, and the end of each of its edges is met so, or its weighed cost plus bound is at least n
  abbrev pub IsExpandedBelow : Task K → Store K → K → ℕ → ℕ → Type 0
  IsExpandedBelow task s x cost n = (task.graph.won x → ⊥)
      × ((c : ℕ) (y : K) → task.graph.edge x c y → IsMet task.limit task.graph s y (cost + c)
      ⊎ (n ≤ weigh task.strategy.weight (cost + c) (task.graph.bound y)))

  -- what a search does with the keys below n: by full expansion they are expanded, by partial expansion they are expanded
  -- below n
  abbrev pub IsDone : Expansion → Task K → Store K → K → ℕ → ℕ → Type 0
  IsDone Full task s x cost n = IsExpanded task s x cost
  IsDone Partial task s x cost n = IsExpandedBelow task s x cost n

  -- the key isn't won, and the end of each of its edges is stored at this cost and the edge's, or that and its bound are no less than n
  abbrev pub IsCoveredBelow : Graph K → Store K → K → ℕ → ℕ → Type 0
  IsCoveredBelow g s x cost n = (g.won x → ⊥)
      × ((c : ℕ) (y : K) → g.edge x c y → HasAt s y (cost + c) ⊎ (n ≤ cost + c + g.bound y))

  -- the cost of the key with this number and mark plus what is noted of it, both weighed
  abbrev pub f_of : Task K → Store K → ℕ → Mark → ℕ
  f_of task s number mark = weigh task.strategy.weight mark.cost (bound_at s number)

  -- where the key with this number and weighed cost is open, if it is: where it was opened last
  abbrev pub IsWhereOpen : Store K → ℕ → ℕ → ℕ → Type 0
  IsWhereOpen s number cost f = (opening : Opening) × (slice_get s.openings number ≡ Some opening) × (f ≡ opens_at cost opening)

  -- the key with this number and weighed cost is open at this f: such a pair of it waits, and it was opened there last
  abbrev pub IsOpenAt : Store K → ℕ → ℕ → ℕ → Type 0
  IsOpenAt s number cost f = Contains s.waiting (f, number) × IsWhereOpen s number cost f

  -- the key is open at some greater f, and expanded below it: never by full expansion
  abbrev pub IsOpenLater : Expansion → Task K → Store K → ℕ → K → Mark → Type 0
  IsOpenLater Full task s number x mark = ⊥
  IsOpenLater Partial task s number x mark =
      (f : ℕ) × IsOpenAt s number (weighed_cost task.strategy mark) f × IsExpandedBelow task s x mark.cost f

  -- the key is open at its cost plus what is noted of it, both weighed, or expanded, or open later
  abbrev pub IsOpenOrExpanded : Task K → Store K → ℕ → K → Mark → Type 0
  IsOpenOrExpanded task s number x mark = IsOpenAt s number (weighed_cost task.strategy mark) (f_of task s number mark)
      ⊎ (IsExpanded task s x mark.cost
      ⊎ IsOpenLater task.strategy.expansion task s number x mark)

  -- no answer, weighed as a bound is, is below this cost plus some number that is shown of the key, both weighed
  abbrev pub IsWithin : Graph K → Ratio → K → ℕ → Type 0
  IsWithin g weight x cost = (bound : ℕ) × (note : ℕ) × g.shown x bound note
      × ((n : ℕ) → g.wins n → weigh weight cost bound ≤ weight.times * n)

  -- the key came by needed work. By full expansion it starts, or an edge leads to it from a key whose weighed cost plus what is
  -- shown no answer, weighed as a bound is, is below; by partial expansion it was itself reached at such a cost
  abbrev pub IsNeeded : Expansion → Graph K → Ratio → K → Type 0
  IsNeeded Full g weight y = ((d : ℕ) × g.starts y d)
      ⊎ ((x : K) × (d : ℕ) × (c : ℕ) × IsReached g x d × g.edge x c y × IsWithin g weight x d)
  IsNeeded Partial g weight y = (d : ℕ) × IsReached g y d × IsWithin g weight y d

  -- the key starts under this number, its own parent, or an edge leads to it from its parent, at no more than its cost
  abbrev pub Comes : Graph K → Store K → ℕ → K → Mark → Type 0
  Comes g s number x mark = ((mark.parent ≡ number) × g.starts x mark.cost)
      ⊎ ((w : K) × (was : Mark) × (c : ℕ) × IsStored s mark.parent w was × g.edge w c x × (was.cost + c ≤ mark.cost))

  -- the openings that are noted: one for each stored key, with a number that is shown of it
  abbrev pub AreNoted : Graph K → Store K → Type 0
  AreNoted g s = (length s.openings ≡ length s.stored)
      × ((i : ℕ) (x : K) (m : Mark) → IsStored s i x m
      → (opening : Opening) × (slice_get s.openings i ≡ Some opening) × g.shown x opening.bound opening.note)

  -- what holds of the stored keys and the open pairs, whichever keys are expanded
  pub record IsSound (task : Task K) (s : Store K) : Type 0 where
    pub room : length s.stored ≤ task.strategy.budget
    pub once : (i j : ℕ) (x : K) (m n : Mark) → IsStored s i x m → IsStored s j x n → i ≡ j
    pub reached : (i : ℕ) (x : K) (m : Mark) → IsStored s i x m → IsReached task.graph x m.cost
    pub low : (i : ℕ) (x : K) (m : Mark) → IsStored s i x m → m.cost + task.graph.spare x ≤ i + MOST_SPARE
    pub comes : (i : ℕ) (x : K) (m : Mark) → IsStored s i x m → Comes task.graph s i x m
    pub needed : (i : ℕ) (x : K) (m : Mark) → IsStored s i x m
        → IsNeeded task.strategy.expansion task.graph task.strategy.weight x
    pub starts : (x : K) (d : ℕ) → task.graph.starts x d → HasAt s x d
    pub pairs : (f i : ℕ) → Contains s.waiting (f, i)
        → (x : K) × (m : Mark) × IsStored s i x m × (f_of task s i m ≤ f)
    pub noted : AreNoted task.graph s
    pub under : (i : ℕ) (x : K) (m : Mark) → IsStored s i x m → (n : ℕ) → task.graph.wins n
        → ReachesLimit task.limit n → m.cost + bound_at s i ≤ n
    pub near : (f i : ℕ) → Contains s.waiting (f, i) → (n : ℕ) → task.graph.wins n
        → ReachesLimit task.limit n → f ≤ task.strategy.weight.times * n

  -- what holds between the turns of a running search
  pub record IsKept (task : Task K) (s : Store K) : Type 0 where
    pub sound : IsSound task s
    pub settled : (i : ℕ) (x : K) (m : Mark) → IsStored s i x m → IsOpenOrExpanded task s i x m
