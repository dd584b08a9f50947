-- Batches of searches, and their turns.
use Rattle.std.specs.Prelude.{◌≡◌, ◌≢◌, ℕ, zero, suc, ◌+◌, ◌<◌, ◌==◌, if◌then◌else◌, List, [], ◌∷◌, map, sum_by, Option, Some, None, MatchOption, Result, Ok, Err}
use Rattle.fc_best_first.specs.declared.searches.SearchFault.{SearchFault}
use Rattle.fc_best_first.specs.declared.searches.SearchFault.TheVariants.{NoSuch}
use Rattle.fc_best_first.specs.declared.searches.Step.{Step}
use Rattle.fc_best_first.specs.declared.searches.Step.TheVariants.{Running}
use Rattle.fc_best_first.specs.declared.turns.Status.{Status}
use Rattle.fc_best_first.specs.declared.turns.Status.TheVariants.{Running as runs}
use Rattle.fc_best_first.specs.Search.{FloorAfter, Turns}
use Rattle.fc_best_first.specs.Turn.{work_left as left_of}
use Rattle.fc_search.specs.Problem.{task_of_problem}
use Rattle.fc_search.specs.Search.{State}

-- a batch, to its callers: the searches that it holds, each with its number, and how many were ever added, which is the
-- next number
pub record Batch : Type 0 where
  pub searches : List (ℕ × State)
  pub added : ℕ

-- the search with this number in a list of them, if there is one
abbrev pub search_numbered : List (ℕ × State) → ℕ → Option State
search_numbered [] i = None
search_numbered ((number, search) ∷ rest) i = if number == i then Some search else search_numbered rest i

-- the search with this number, if the batch holds one
abbrev pub search_at : Batch → ℕ → Option State
search_at batch i = search_numbered batch.searches i

-- the numbers that searches are held under were given: they are below the next one
abbrev pub NumbersWereGiven : Batch → Type 0
NumbersWereGiven batch = (i : ℕ) (search : State) → search_at batch i ≡ Some search → i < batch.added

-- a batch stays as it is: its searches, their numbers and the count
pub record Stays (old new : Batch) : Type 0 where
  pub searches : (i : ℕ) → search_at new i ≡ search_at old i
  pub added : new.added ≡ old.added

-- every search but the one with this number stays as it is
abbrev pub OthersStay : ℕ → Batch → Batch → Type 0
OthersStay i old new = (j : ℕ) → j ≢ i → search_at new j ≡ search_at old j

-- a search has one turn, with this reply
pub record HasTurn (old new : State) (reply : Result Step SearchFault) : Type 0 where
  pub problem : new.problem ≡ old.problem
  pub turned : Turns (task_of_problem old.problem) old.status old.store new.store new.status reply
  pub floor : FloorAfter old.status old.store.waiting old.floor new.floor

-- so many turns of a search, one after the other
abbrev pub HasTurns : ℕ → State → State → Type 0
HasTurns zero old new = new ≡ old
HasTurns (suc turns) old new =
    (mid : State) × (reply : Result Step SearchFault) × HasTurn old mid reply × HasTurns turns mid new

-- the search with this number has one turn, and everything else stays as it is
pub record TurnsAt (i : ℕ) (old new : Batch) (before : State) (reply : Result Step SearchFault) : Type 0 where
  pub after : State
  pub there : search_at new i ≡ Some after
  pub turn : HasTurn before after reply
  pub others : OthersStay i old new
  pub added : new.added ≡ old.added

-- one turn for a number: of the search with it; where there is none, `NoSuch`, and the batch stays as it is
abbrev pub TurnFor : ℕ → Batch → Batch → Result Step SearchFault → Type 0
TurnFor i old new reply =
    MatchOption (search_at old i) ((reply ≡ Err NoSuch) × Stays old new) (λ before. TurnsAt i old new before reply)

-- 1 for the reply of a search that is still running, else 0
abbrev pub count_if_running : Result Step SearchFault → ℕ
count_if_running (Ok Running) = 1
count_if_running other = 0

-- one turn for each number of a list, in its order, however often it stands there; so many replies were of running searches
abbrev pub TurnsFor : List ℕ → Batch → Batch → ℕ → Type 0
TurnsFor [] old new count = Stays old new × (count ≡ 0)
TurnsFor (i ∷ list) old new count = (mid : Batch) × (reply : Result Step SearchFault) × (others : ℕ) × TurnFor i old mid reply
    × TurnsFor list mid new others × (count ≡ count_if_running reply + others)

-- how often a number stands in a list
abbrev pub times : ℕ → List ℕ → ℕ
times i [] = 0
times i (j ∷ list) = (if i == j then 1 else 0) + times i list

-- one more than this for a search that runs, else nothing
abbrev pub while_running : Status (List ℕ) → ℕ → ℕ
while_running runs left = 1 + left
while_running other left = 0

-- how much a search may still do, by its status: nothing unless it runs
abbrev pub work_of : State → ℕ
work_of s = while_running s.status (left_of s.problem.method.strategy.budget s.store)

-- how much the searches of a batch may still do, in all
abbrev pub work_left : Batch → ℕ
work_left batch = sum_by work_of (map (λ e. e.1) batch.searches)
