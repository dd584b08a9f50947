-- The state of a search: the keys that it stores, and the pairs that it has still to look at.
use Rattle.std.specs.Prelude.{◌≡◌, ℕ, ◌+◌, ◌*◌, ◌<◌, ◌≤◌, List, [], ◌∷◌, ◌++◌, length, slice_get, slice_set, Option, Some, None}
use Rattle.indexmap.specs.IndexMap.{set_value_at}
use Rattle.fc_frontier.specs.Queue.{Adds, IsLeast}
use Rattle.fc_best_first.specs.declared.books.Mark.{Mark}
use Rattle.fc_best_first.specs.declared.books.Opening.{Opening}
use Rattle.fc_best_first.specs.declared.books.Offered.{Offered}
use Rattle.fc_best_first.specs.declared.books.Offered.TheVariants.{Known, Lowered, Added, Full, PutOff, Past}
use Rattle.fc_best_first.specs.declared.strategies.Expansion.{Expansion}
use Rattle.fc_best_first.specs.declared.strategies.Expansion.TheVariants as expansion
use Rattle.fc_best_first.specs.declared.strategies.Strategy.{Strategy}
use Rattle.fc_best_first.specs.Graph.{Graph, Task}
use Rattle.fc_best_first.specs.Limits.{IsBelowLimit, IsWithinLimit, Ratio, ReachesLimit, weigh}

-- stored keys in the order of their numbers, each with its mark, open pairs (f, number), and where each key was opened last
pub record Store (K : Type 0) : Type 0 where
  pub stored : List (K × Mark)
  pub waiting : List (ℕ × ℕ)
  pub openings : List Opening

-- a key that is offered: the mark that it would be stored with, and where it would be open
pub record Candidate (K : Type 0) : Type 0 where
  pub key : K
  pub mark : Mark
  pub opening : Opening

-- the cost of a mark, as a search by this strategy weighs it
abbrev pub weighed_cost : Strategy → Mark → ℕ
weighed_cost strategy mark = strategy.weight.parts * mark.cost

-- what is open at an opening of a key of this weighed cost is open at this f
abbrev pub opens_at : ℕ → Opening → ℕ
opens_at cost opening = cost + opening.over

-- the number that is noted in an opening, if there is one
abbrev pub bound_in : Option Opening → ℕ
bound_in None = 0
bound_in (Some opening) = opening.bound

-- the opening is at what is noted in another, weighed
abbrev pub IsOpenedAnew : Ratio → Opening → Opening → Type 0
IsOpenedAnew weight was opening =
    (opening.over ≡ weight.times * was.bound) × (opening.bound ≡ was.bound) × (opening.note ≡ was.note)

-- a new key that would be open at this f is stored when a pair of the f that was taken is expanded: by full expansion
-- always, by partial expansion where it is no greater
abbrev pub Admits : Expansion → ℕ → ℕ → Type 0
Admits expansion.Full taken f = Unit {0}
Admits expansion.Partial taken f = f ≤ taken

-- a key that would be open at this f is put off until the later one, which is greater than what was taken and no greater
-- than its own: never by full expansion
abbrev pub PutsOff : Expansion → ℕ → ℕ → ℕ → Type 0
PutsOff expansion.Full taken f later = ⊥
PutsOff expansion.Partial taken f later = (taken < later) × (later ≤ f)

module _ {K : Type 0} where
  -- the key is stored under this number with this mark
  abbrev pub IsStored : Store K → ℕ → K → Mark → Type 0
  IsStored s number x mark = slice_get s.stored number ≡ Some (x, mark)

  -- the number that is noted of the key with this one
  abbrev pub bound_at : Store K → ℕ → ℕ
  bound_at s number = bound_in (slice_get s.openings number)

  -- a key is open at its weighed cost and a number that is shown of it, weighed
  abbrev pub IsOpening : Graph K → Ratio → K → Opening → Type 0
  IsOpening g weight x opening = (opening.over ≡ weight.times * opening.bound) × g.shown x opening.bound opening.note

  -- the key is not stored
  abbrev pub IsNew : Store K → K → Type 0
  IsNew s x = (number : ℕ) (mark : Mark) → IsStored s number x mark → ⊥

  -- what storing a new key does: it goes last and is open, which is noted, where fewer than the budget are stored
  abbrev pub Stores : Strategy → Store K → Store K → Candidate K → Offered K → Type 0
  Stores strategy old new offer Added =
      (length old.stored < strategy.budget) × (new.stored ≡ old.stored ++ (offer.key, offer.mark) ∷ [])
      × Adds old.waiting new.waiting (opens_at (weighed_cost strategy offer.mark) offer.opening, length old.stored)
      × (new.openings ≡ old.openings ++ offer.opening ∷ [])
  Stores strategy old new offer (Full y) = (y ≡ offer.key) × (strategy.budget ≤ length old.stored) × (new ≡ old)
  Stores strategy old new offer _ = ⊥

  -- a stored key takes the new mark and is open at its new f, which is noted
  abbrev pub Lowers : Strategy → Store K → Store K → ℕ → Mark → Opening → Type 0
  Lowers strategy old new number mark opening = (new.stored ≡ set_value_at old.stored number mark)
      × Adds old.waiting new.waiting (opens_at (weighed_cost strategy mark) opening, number)
      × (new.openings ≡ slice_set old.openings number opening)

  -- what offering a key does, when a pair of this f was taken: one that is stored is left where it is stored at no more, and
  -- else takes the new mark, and is open at what is noted of it; a new one is stored, open at a number that is shown of it; one that is
  -- open at no more than a later f, by its bound, is put off until that, whether or not it is stored; and nothing is done where
  -- its cost plus bound reaches the limit
  abbrev pub Offers : Task K → ℕ → Store K → Store K → Candidate K → Offered K → Type 0
  Offers task taken old new offer Known =
      (number : ℕ) × (was : Mark) × IsStored old number offer.key was × (was.cost ≤ offer.mark.cost) × (new ≡ old)
  Offers task taken old new offer Lowered =
      (number : ℕ) × (was : Mark) × IsStored old number offer.key was × (offer.mark.cost < was.cost)
      × ((before : Opening) × (slice_get old.openings number ≡ Some before) × IsOpenedAnew task.strategy.weight before offer.opening)
      × Lowers task.strategy old new number offer.mark offer.opening
  Offers task taken old new offer Added = IsNew old offer.key × IsOpening task.graph task.strategy.weight offer.key offer.opening
      × Admits task.strategy.expansion taken (opens_at (weighed_cost task.strategy offer.mark) offer.opening)
      × IsBelowLimit task.limit (offer.mark.cost + offer.opening.bound) × Stores task.strategy old new offer Added
  Offers task taken old new offer (Full y) = IsNew old offer.key × IsOpening task.graph task.strategy.weight offer.key offer.opening
      × Admits task.strategy.expansion taken (opens_at (weighed_cost task.strategy offer.mark) offer.opening)
      × IsBelowLimit task.limit (offer.mark.cost + offer.opening.bound) × Stores task.strategy old new offer (Full y)
  Offers task taken old new offer (PutOff later) =
      PutsOff task.strategy.expansion taken (weigh task.strategy.weight offer.mark.cost (task.graph.bound offer.key)) later
      × IsWithinLimit task.limit task.strategy.weight.times later × (new ≡ old)
  Offers task taken old new offer Past = ReachesLimit task.limit (offer.mark.cost + task.graph.bound offer.key) × (new ≡ old)

  -- an open pair of least f is taken, whose key is stored with this mark
  pub record IsTaken (old : Store K) (new : Store K) (f : ℕ) (number : ℕ) (x : K) (mark : Mark) : Type 0 where
    pub taken : Adds new.waiting old.waiting (f, number)
    pub least : IsLeast (f, number) old.waiting
    pub kept : new.stored ≡ old.stored
    pub noted : new.openings ≡ old.openings
    pub stands : IsStored old number x mark
