-- Questions that a search answers, each seen as a graph whose edges have costs.
use Rattle.std.specs.Prelude.{◌≡◌, ℕ, ◌+◌, ◌<◌, ◌≤◌, ◌⊎◌, suc, zero, List, Option, Contains}
use Rattle.fc_best_first.specs.declared.strategies.Strategy.{Strategy}
use Rattle.fc_best_first.specs.declared.turns.TheConstants.{MOST_SPARE}

-- a question over keys: where it starts and at which cost, which edges lead on and what each costs, a lower bound of
-- what is still to pay, which numbers a search may go by of a key, each shown with a note, how much all edges from a key on
-- may cost beyond one each, which keys are won, and at which costs the question has an answer
pub record Graph (K : Type 0) : Type 1 where
  pub starts : K → ℕ → Type 0
  pub edge : K → ℕ → K → Type 0
  pub bound : K → ℕ
  pub shown : K → ℕ → ℕ → Type 0
  pub spare : K → ℕ
  pub won : K → Type 0
  pub wins : ℕ → Type 0

-- what a search is asked: a question, how it is to be searched, and the limit from which on answers aren't wanted, if there is
-- one
pub record Task (K : Type 0) : Type 1 where
  pub graph : Graph K
  pub strategy : Strategy
  pub limit : Option ℕ

module _ {K : Type 0} where
  -- the same of its three parts
  abbrev pub task_by : Graph K → Strategy → Option ℕ → Task K
  task_by g strategy limit = record { graph = g; strategy = strategy; limit = limit }

  -- so many edges lead to the key from a start, at this cost in all
  abbrev pub ReachedBy : ℕ → Graph K → K → ℕ → Type 0
  ReachedBy zero g y cost = g.starts y cost
  ReachedBy (suc edges) g y cost =
      (x : K) × (d : ℕ) × (c : ℕ) × ReachedBy edges g x d × g.edge x c y × (cost ≡ d + c)

  -- the key can be reached at this cost
  abbrev pub IsReached : Graph K → K → ℕ → Type 0
  IsReached g y cost = (edges : ℕ) × ReachedBy edges g y cost

  -- a table of keys and costs lists the key at no more than this cost
  abbrev pub Lists : List (K × ℕ) → K → ℕ → Type 0
  Lists table y cost = (d : ℕ) × Contains table (y, d) × (d ≤ cost)

  -- what is reached at this cost can't be won below n, or the table lists it
  abbrev pub Covers : Graph K → ℕ → List (K × ℕ) → K → ℕ → Type 0
  Covers g n table y cost = (n ≤ cost + g.bound y) ⊎ Lists table y cost

  -- a table of reached keys that leaves no answer below n: no key below n is won, and all that starts, and all that an
  -- edge leads to from a key below n, is covered
  pub record IsClosedInside (g : Graph K) (n : ℕ) (table : List (K × ℕ)) : Type 0 where
    pub reached : (x : K) (d : ℕ) → Contains table (x, d) → IsReached g x d
    pub not_won : (x : K) (d : ℕ) → Contains table (x, d) → d + g.bound x < n → g.won x → ⊥
    pub starts : (x : K) (d : ℕ) → g.starts x d → Covers g n table x d
    pub edges : (x : K) (d : ℕ) (c : ℕ) (y : K) → Contains table (x, d) → d + g.bound x < n → g.edge x c y
        → Covers g n table y (d + c)

  -- what a search asks of its question: a won key that is reached is an answer, a table that is closed inside n leaves no
  -- answer below n, what is shown of a key is no greater than its bound, an edge costs one and what its key spares, and a start's cost
  -- and what it may spare are small
  pub record IsLawful (g : Graph K) : Type 0 where
    pub answers : (x : K) (d : ℕ) → IsReached g x d → g.won x → g.wins d
    pub closed : (n : ℕ) (table : List (K × ℕ)) → IsClosedInside g n table → (m : ℕ) → g.wins m → n ≤ m
    pub shown : (x : K) (bound note : ℕ) → g.shown x bound note → bound ≤ g.bound x
    pub edges : (x : K) (c : ℕ) (y : K) → g.edge x c y → (1 ≤ c) × (c + g.spare y ≤ 1 + g.spare x)
    pub starts : (x : K) (d : ℕ) → g.starts x d → d + g.spare x ≤ MOST_SPARE
