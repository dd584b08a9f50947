-- What the laws of this crate state.
use Rattle.std.specs.Prelude.{◌≡◌, ℕ, List, Some, None, slice_get}
use Rattle.fc_best_first.specs.declared.turns.Status.TheVariants.{Running}
use Rattle.fc_search.specs.Search.{State}
use Rattle.fc_batch.specs.Batch.{Batch, HasTurns, TurnsFor, search_at, times}

-- after turns for the numbers of a list, each search has had as many turns as its number stands in the list, as if it were
-- alone
abbrev pub SearchesTurnAlone : Type 0
SearchesTurnAlone = (list : List ℕ) (old new : Batch) (count : ℕ) → TurnsFor list old new count → (i : ℕ) (before : State)
    → search_at old i ≡ Some before → (after : State) × (search_at new i ≡ Some after) × HasTurns (times i list) before after

-- and no number has come or gone: neither those that are held nor the next one
abbrev pub NumbersStay : Type 0
NumbersStay = (list : List ℕ) (old new : Batch) (count : ℕ) → TurnsFor list old new count
    → (new.added ≡ old.added) × ((i : ℕ) → search_at old i ≡ None → search_at new i ≡ None)

-- where no turn for the numbers of a list replied that its search runs on, no search with one of these numbers runs
abbrev pub QuietTurnsEnd : Type 0
QuietTurnsEnd = (list : List ℕ) (old new : Batch) (count : ℕ) → TurnsFor list old new count → count ≡ 0
    → (k i : ℕ) (search : State) → slice_get list k ≡ Some i → search_at new i ≡ Some search → search.status ≡ Running → ⊥
