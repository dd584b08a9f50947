-- What a listener hears of a search, stretch by stretch.
use Rattle.std.proofs.Common.{◌≡◌, ◌≢◌, ℕ, ◌≤◌, List, [], ◌∷◌, ◌++◌, refl, subst}
use Rattle.std.specs.Prelude.{max}
use Rattle.fc_best_first.specs.Search.{Runs}
use Rattle.fc_search.specs.Problem.{Problem, task_of_problem}
use Rattle.fc_search.specs.declared.listeners.Progress.{Progress}
use Rattle.fc_search.specs.Watch.{HearsAll, IsFar, IsHeard, Stage, TurnsMany}
use Rattle.fc_search.proofs.TurnLemmas.{turns_both, turns_on}

-- after some that were heard one more is
pub hears_on : {L : Type 0} (hears : L → Progress → L → Type 0) (old mid new : L) (heard : List Progress) (far : Progress)
    → HearsAll hears old heard mid → hears mid far new → HearsAll hears old (heard ++ far ∷ []) new
hears_on hears old mid new [] far same one = (new, subst (λ m. hears m far new) same one, refl)
hears_on hears old mid new (told ∷ later) far (next, first, rest) one = (next, first, hears_on hears next mid new later far rest one)

-- the most that was open, as it was told last
pub most_of : ℕ → List Progress → ℕ
most_of most [] = most
most_of most (far ∷ later) = most_of far.most_open later

pub most_of-append : (most : ℕ) (heard : List Progress) (far : Progress) → most_of most (heard ++ far ∷ []) ≡ far.most_open
unfolding most_of
most_of-append most [] far = refl
most_of-append most (told ∷ later) far = most_of-append told.most_open later far

pub most_of-none : (most : ℕ) → most_of most [] ≡ most
unfolding most_of
most_of-none most = refl

pub some_heard : (heard : List Progress) (far : Progress) → (heard ++ far ∷ []) ≢ []
some_heard [] far e = cc
some_heard (told ∷ later) far e = cc

module _ (q : Problem) where
  -- what was heard, and how far the search is some turns later
  pub heard_on : (old mid new : Stage) (most made : ℕ) (heard : List Progress) (far : Progress) → IsHeard q old most heard mid
      → 1 ≤ made → TurnsMany made q mid new → IsFar q new far → far.most_open ≡ max (most_of most heard) far.open
      → IsHeard q old most (heard ++ far ∷ []) new
  unfolding most_of
  heard_on old mid new most made [] far same some turned is greatest =
      (new, made, some, subst (λ s. TurnsMany made q s new) same turned, is, greatest, refl)
  heard_on old mid new most made (told ∷ later) far (next, by, some_by, first, is_told, most_told, rest) some turned is greatest =
      (next, by, some_by, first, is_told, most_told, heard_on next mid new told.most_open made later far rest some turned is greatest)

  -- a search that was heard ran
  pub heard_runs : (old new : Stage) (most : ℕ) (heard : List Progress) → IsHeard q old most heard new
      → Runs (task_of_problem q) old.status old.store new.store new.status
  heard_runs old new most [] same = (0, turns_on q 0 old new same)
  heard_runs old new most (far ∷ later) (mid, made, some, turned, is, greatest, rest) =
      let (more, ran) = heard_runs mid new far.most_open later rest in (
        _,
        turns_both (task_of_problem q) made more old.status mid.status new.status old.store mid.store new.store
            (turns_on q made old mid turned) ran,
      )

  -- and so did one that was stopped then
  pub stopped_runs : (old mid new : Stage) (most made : ℕ) (heard : List Progress) → IsHeard q old most heard mid
      → TurnsMany made q mid new → Runs (task_of_problem q) old.status old.store new.store new.status
  stopped_runs old mid new most made heard told turned =
      let (before, ran) = heard_runs old mid most heard told in (
        _,
        turns_both (task_of_problem q) before made old.status mid.status new.status old.store mid.store new.store
            ran (turns_on q made mid new turned),
      )
