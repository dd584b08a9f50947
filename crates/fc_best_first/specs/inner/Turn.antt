-- One turn of a search, within the crate.
use Rattle.std.specs.Prelude.{◌≡◌, ℕ, ◌+◌, ◌<◌, ◌≤◌, List, length, Contains, Option, Some, None}
use Rattle.fc_best_first.specs.declared.books.Mark.{Mark}
use Rattle.fc_best_first.specs.declared.books.Offered.{Offered}
use Rattle.fc_best_first.specs.declared.books.Offered.TheVariants.{PutOff}
use Rattle.fc_best_first.specs.declared.spaces.Child.{Child}
use Rattle.fc_best_first.specs.declared.strategies.Expansion.{Expansion}
use Rattle.fc_best_first.specs.declared.strategies.Expansion.TheVariants.{Partial}
use Rattle.fc_best_first.specs.declared.turns.Placing.{Placing}
use Rattle.fc_best_first.specs.declared.turns.Placing.TheVariants.{Later}
use Rattle.fc_best_first.specs.declared.turns.Status.{Status}
use Rattle.fc_best_first.specs.declared.turns.Status.TheVariants.{Running, GaveUp}
use Rattle.fc_best_first.specs.declared.turns.TheConstants.{MOST_OVER}
use Rattle.fc_best_first.specs.Graph.{Graph, IsReached, Task}
use Rattle.fc_best_first.specs.Store.{Store}
use Rattle.fc_best_first.specs.Turn.{AreChildren, Closes, Expands, put_off}

-- by partial expansion a child of a key of this weighed cost is put off until this f, which is greater than what was taken, and near
abbrev pub IsNearLater : Expansion → ℕ → ℕ → ℕ → Type 0
IsNearLater expansion taken cost f = (expansion ≡ Partial) × (taken < f) × (f ≤ cost + MOST_OVER)

module _ {K : Type 0} where
  -- so many children were put off before the others
  abbrev pub put_off_first : Option ℕ → Placing K → Placing K
  put_off_first None others = others
  put_off_first (Some f) others = put_off f others

  -- some children that may be left are placed so, after others that were put off, if some were
  abbrev pub PlacesSome : (List (Child K) → Type 0) → Option ℕ → (List (Child K) → Placing K → Type 0) → Placing K → Type 0
  PlacesSome rest others places placing = (children : List (Child K)) × (own : Placing K) × rest children
      × places children own × (placing ≡ put_off_first others own)

  -- these are children of a key, and where they are placed all of its children are, others having been put off first, if some were
  abbrev pub StandForAll : Task K → ℕ → Mark → K → Option ℕ → List (Child K) → Type 0
  StandForAll task taken origin x others children = (all : List (Child K)) × AreChildren task.graph x all
      × ((child : Child K) → Contains children child → Contains all child)
      × ((old new : Store K) (own : Placing K) → Expands task taken origin children old new own
      → Expands task taken origin all old new (put_off_first others own))

  -- each of the children is a key that can be reached
  abbrev pub AreReached : Graph K → List (Child K) → Type 0
  AreReached g children = (child : Child K) → Contains children child → (d : ℕ) × IsReached g child.key d

  -- a child of a key of this weighed cost was put off, if it was, until an f that is near
  abbrev pub IsPutOffNear : ℕ → Offered K → Type 0
  IsPutOffNear cost (PutOff f) = f ≤ cost + MOST_OVER
  IsPutOffNear cost other = Unit {0}

  -- where children of a key of this weighed cost were put off, expansion is partial, and it is until an f that is greater than what was
  -- taken, and near
  abbrev pub IsLaterNear : Expansion → ℕ → ℕ → Placing K → Type 0
  IsLaterNear expansion taken cost (Later f) = IsNearLater expansion taken cost f
  IsLaterNear expansion taken cost other = Unit {0}

  -- a key of this weighed cost, of which children were put off, can be opened again
  abbrev pub IsReady : Store K → ℕ → ℕ → Placing K → Type 0
  IsReady s number cost (Later f) = (number < length s.openings) × (cost ≤ f) × (f ≤ cost + MOST_OVER)
  IsReady s number cost other = Unit {0}

  -- what becomes of an expanded key of this weighed cost, and the status that it leaves
  abbrev pub Becomes : Store K → Store K → ℕ → ℕ → Placing K → Status K → Type 0
  Becomes old new number cost placing Running = Closes old new number cost placing None
  Becomes old new number cost placing (GaveUp y from) = Closes old new number cost placing (Some y) × (from ≡ number)
  Becomes old new number cost placing other = ⊥
