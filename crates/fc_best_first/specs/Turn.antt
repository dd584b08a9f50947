-- One turn of a search.
use Rattle.std.specs.Prelude.{◌≡◌, ◌≢◌, ◌↔◌, ℕ, ◌+◌, ◌-◌, ◌*◌, ◌≤◌, ◌⊎◌, zero, suc, max, min, Bool, IsTrue, List, [], ◌∷◌, ◌++◌, length, slice_get, slice_set, sum_by, Contains, Option, Some, None}
use Rattle.fc_frontier.specs.Queue.{Adds, IsLeast}
use Rattle.fc_best_first.specs.declared.books.Mark.{Mark}
use Rattle.fc_best_first.specs.declared.books.Opening.{Opening}
use Rattle.fc_best_first.specs.declared.books.Offered.TheVariants.{Known, Lowered, Added, Full, PutOff, Past}
use Rattle.fc_best_first.specs.declared.spaces.Child.{Child}
use Rattle.fc_best_first.specs.declared.turns.Placing.{Placing}
use Rattle.fc_best_first.specs.declared.turns.Placing.TheVariants.{Whole, Later, NoRoom}
use Rattle.fc_best_first.specs.declared.turns.Status.{Status}
use Rattle.fc_best_first.specs.declared.turns.Status.TheVariants.{Running, Won, CannotWin, GaveUp, Stopped}
use Rattle.fc_best_first.specs.declared.turns.TheConstants.{MOST_OVER, MOST_SPARE}
use Rattle.fc_best_first.specs.Graph.{Graph, Task}
use Rattle.fc_best_first.specs.Store.{Store, Candidate, Offers, IsTaken, opens_at, weighed_cost}
use Rattle.fc_best_first.specs.Kept.{IsWhereOpen}

-- the floor that a turn of a running search leaves, the greatest f that was taken: the same where no pair is open, else the
-- greater of it and the least f of the open pairs
abbrev pub TakesFloor : List (ℕ × ℕ) → ℕ → ℕ → Type 0
TakesFloor waiting old new = ((waiting ≡ []) × (new ≡ old))
    ⊎ ((f : ℕ) × (number : ℕ) × Contains waiting (f, number) × IsLeast (f, number) waiting × (new ≡ max old f))

-- what the keys under the numbers below this one may cost together, and one more for each: a key costs at most its number and
-- MOST_SPARE
unfoldable pub costs_below : ℕ → ℕ
costs_below zero = 0
costs_below (suc number) = costs_below number + (number + (MOST_SPARE + 1))

module _ {K : Type 0} where
  -- the children of a key: each is at the end of an edge, and each edge's end is one, at no more
  pub record AreChildren (g : Graph K) (x : K) (children : List (Child K)) : Type 0 where
    pub edges : (child : Child K) → Contains children child → g.edge x child.cost child.key
    pub whole : (c : ℕ) (y : K) → g.edge x c y
        → (child : Child K) × Contains children child × (child.key ≡ y) × (child.cost ≤ c)

  -- these are the children of a key but for others whose bounds are no less than this one, and told is whether there are such
  abbrev pub AreChildrenBut : Graph K → K → ℕ → Bool → List (Child K) → Type 0
  AreChildrenBut g x bound some children = (others : List (Child K)) × AreChildren g x (others ++ children)
      × ((child : Child K) → Contains others child → bound ≤ g.bound child.key) × (IsTrue some ↔ (others ≢ []))

  -- a child as it is offered: its mark, by the mark of a child that would cost nothing, and where it would be open
  abbrev pub candidate_of : Mark → Child K → Opening → Candidate K
  candidate_of origin child opening = record {
    key = child.key;
    mark = record { cost = origin.cost + child.cost; parent = origin.parent };
    opening = opening;
  }

  -- one child more was put off, until this f: the least of them counts
  abbrev pub put_off : ℕ → Placing K → Placing K
  put_off f Whole = Later f
  put_off f (Later others) = Later (min f others)
  put_off f (NoRoom y) = NoRoom y

-- in a search, when a pair of this f was taken
module _ {K : Type 0} (task : Task K) (taken : ℕ) where
  -- the children are offered one after the other, by the mark of a child that would cost nothing; the first that finds no place
  -- ends it
  abbrev pub Expands : Mark → List (Child K) → Store K → Store K → Placing K → Type 0
  Expands origin [] old new placing = (new ≡ old) × (placing ≡ Whole)
  Expands origin (child ∷ children) old new placing =
      (opening : Opening) × ((Offers task taken old new (candidate_of origin child opening) (Full child.key) × (placing ≡ NoRoom child.key))
      ⊎ (((mid : Store K)
      × (Offers task taken old mid (candidate_of origin child opening) Known
      ⊎ (Offers task taken old mid (candidate_of origin child opening) Lowered
      ⊎ (Offers task taken old mid (candidate_of origin child opening) Added
      ⊎ Offers task taken old mid (candidate_of origin child opening) Past)))
      × Expands origin children mid new placing)
      ⊎ ((later : ℕ) × Offers task taken old old (candidate_of origin child opening) (PutOff later)
      × ((others : Placing K) × Expands origin children old new others × (placing ≡ put_off later others)))))

module _ {K : Type 0} where
  -- a key with this number and weighed cost is open again at a later f, and the same is noted of it
  abbrev pub Reopens : Store K → Store K → ℕ → ℕ → ℕ → Type 0
  Reopens old new number cost later = (was : Opening) × (next : Opening) × (slice_get old.openings number ≡ Some was)
      × (next.bound ≡ was.bound) × (next.note ≡ was.note) × (next.over ≤ MOST_OVER) × (later ≡ opens_at cost next) × (new.stored ≡ old.stored)
      × Adds old.waiting new.waiting (later, number) × (new.openings ≡ slice_set old.openings number next)

  -- what becomes of an expanded key of this weighed cost, by how its children were placed: where some were put off it is open
  -- again at the least f of those
  abbrev pub Closes : Store K → Store K → ℕ → ℕ → Placing K → Option K → Type 0
  Closes old new number cost Whole left_out = (new ≡ old) × (left_out ≡ None)
  Closes old new number cost (Later f) left_out = Reopens old new number cost f × (left_out ≡ None)
  Closes old new number cost (NoRoom y) left_out = (new ≡ old) × (left_out ≡ Some y)

  -- a pair of this f is an older one of the key with this number and weighed cost: the key was opened elsewhere since
  abbrev pub IsStale : Store K → ℕ → ℕ → ℕ → Type 0
  IsStale s number cost f = (opening : Opening) × (slice_get s.openings number ≡ Some opening) × (f ≢ opens_at cost opening)

  -- a key that isn't won, taken by its present pair, is expanded
  abbrev pub ExpandsTaken : Task K → Store K → Store K → ℕ → Option K → Type 0
  ExpandsTaken task old new number left_out =
      (f : ℕ) × (x : K) × (mark : Mark) × (mid : Store K) × IsTaken old mid f number x mark
      × (task.graph.won x → ⊥) × IsWhereOpen old number (weighed_cost task.strategy mark) f
      × ((children : List (Child K)) × AreChildren task.graph x children
      × ((after : Store K) × (placing : Placing K)
      × Expands task f (record { cost = mark.cost; parent = number }) children mid after placing
      × Closes after new number (weighed_cost task.strategy mark) placing left_out))

  -- a key that isn't won was opened anew since the pair was put in: the pair is dropped
  abbrev pub DropsTaken : Task K → Store K → Store K → Type 0
  DropsTaken task old new =
      (f : ℕ) × (number : ℕ) × (x : K) × (mark : Mark) × IsTaken old new f number x mark
      × (task.graph.won x → ⊥) × IsStale old number (weighed_cost task.strategy mark) f

  -- one turn of a running search, and the status that it leaves
  abbrev pub Advances : Task K → Store K → Store K → Status K → Type 0
  Advances task old new Running = DropsTaken task old new ⊎ ((number : ℕ) × ExpandsTaken task old new number None)
  Advances task old new (Won number) =
      (f : ℕ) × (x : K) × (mark : Mark) × IsTaken old new f number x mark × task.graph.won x
  Advances task old new CannotWin = (old.waiting ≡ []) × (new ≡ old)
  Advances task old new (GaveUp x number) = ExpandsTaken task old new number (Some x)
  Advances task old new Stopped = ⊥

  -- how much a search may still do: it falls with each turn that leaves the search running
  abbrev pub work_left : ℕ → Store K → ℕ
  work_left budget s =
      (MOST_OVER + 1) * (sum_by (λ e. e.1.cost) s.stored + (costs_below budget - costs_below (length s.stored)))
      + sum_by (λ o. MOST_OVER - o.over) s.openings + length s.waiting
