-- How far a search is that began and had turns, and what is heard of it then.
use Rattle.std.proofs.Common.{◌≡◌, ◌≢◌, ℕ, ◌+◌, ◌*◌, ◌<◌, ◌≤◌, List, [], ◌∷◌, ◌++◌, length, None, ◌∙◌, ap, refl, sym, subst, inr}
use Rattle.std.specs.Prelude.{max}
use Rattle.fc_frontier.specs.Queue.{Adds}
use Rattle.fc_moves.specs.declared.steps.Move.{Move}
use Rattle.fc_moves.specs.Run.{Wins}
use Rattle.fc_best_first.specs.declared.turns.Status.TheVariants.{Running, Stopped}
use Rattle.fc_best_first.specs.Search.{Begins}
use Rattle.fc_search.specs.Problem.{Problem, task_of_problem}
use Rattle.fc_search.specs.Search.{State}
use Rattle.fc_search.specs.declared.listeners.Progress.{Progress}
use Rattle.fc_search.specs.Watch.{IsFirst, IsHeard, IsHeardInPart, TellsFloor, TurnsMany, IsHeardOn, stage_of}
use Rattle.fc_search.proofs.HearLemmas.{heard_on, most_of, some_heard}

-- a search that has had no turn
pub is_first : (q : Problem) (s : State) → s.problem ≡ q → s.status ≡ Running → Begins (task_of_problem s.problem) s.store
    → Adds [] s.store.waiting (s.floor, 0) → IsFirst q (stage_of s 0)
is_first q s asked running begins floor = record {
  begins = subst (λ p. Begins (task_of_problem p) s.store) asked begins;
  running = running;
  floor = floor;
  none = refl;
}

module _ (q : Problem) where
  -- turns of a search that is still of the problem with which it began
  pub turned_on : (now next : State) (turns made : ℕ) → now.problem ≡ q
      → TurnsMany made now.problem (stage_of now turns) (stage_of next (turns + made))
      → TurnsMany made q (stage_of now turns) (stage_of next (turns + made))
  turned_on now next turns made asked turned =
      subst (λ p. TurnsMany made p (stage_of now turns) (stage_of next (turns + made))) asked turned

  -- the floor that such a search tells
  pub tells_floor : (next : State) (turns : ℕ) (far : Progress) → next.problem ≡ q → far.budget ≡ q.method.strategy.budget → far.turns ≡ turns
      → (next.floor ≤ next.problem.method.strategy.weight.times * far.at_least)
      × (next.problem.method.strategy.weight.times * far.at_least < next.floor + next.problem.method.strategy.weight.times)
      → ((moves : List Move) → Wins next.problem.game next.problem.start moves → far.at_least ≤ length moves)
      → TellsFloor q (stage_of next turns) far
  tells_floor next turns far asked budgeted counted near least = record {
    budgeted = budgeted;
    counted = counted;
    near = subst (λ p. (next.floor ≤ p.method.strategy.weight.times * far.at_least)
        × (p.method.strategy.weight.times * far.at_least < next.floor + p.method.strategy.weight.times)) asked near;
    least = λ moves wins. least moves (subst (λ p. Wins p.game p.start moves) (sym asked) wins);
  }

  module _ (first now next : State) (turns made most : ℕ) (heard : List Progress) (far : Progress)
      (told : IsHeard q (stage_of first 0) 0 heard (stage_of now turns)) (some : 1 ≤ made)
      (turned : TurnsMany made q (stage_of now turns) (stage_of next (turns + made)))
      (floor : TellsFloor q (stage_of next (turns + made)) far) where
    -- what was heard of a search that was not stopped, and how far it is now
    pub heard_then : next.status ≢ Stopped → far.classes ≡ length next.store.stored → far.open ≡ length next.store.waiting
        → far.shortest ≡ None → most ≡ most_of 0 heard → far.most_open ≡ max most far.open
        → IsHeard q (stage_of first 0) 0 (heard ++ far ∷ []) (stage_of next (turns + made))
    heard_then going stored opened unlisted before greatest =
        heard_on q (stage_of first 0) (stage_of now turns) (stage_of next (turns + made)) 0 made heard far told some turned
        (record { going = going; stored = stored; opened = opened; unlisted = unlisted; floor = floor })
        (greatest ∙ ap (λ m. max m far.open) before)

    -- what was heard of one that a growth stopped
    pub heard_stopped : IsFirst q (stage_of first 0) → next.status ≡ Stopped → IsHeardInPart q (heard ++ far ∷ [])
    heard_stopped begins stopped = record {
      first = stage_of first 0;
      last = stage_of now turns;
      begins = begins;
      front = heard;
      told = told;
      rest = inr (
        far,
        refl,
        record {
          stage = stage_of next (turns + made);
          made = made;
          some = some;
          turned = turned;
          stopped = stopped;
          floor = floor;
        },
      );
    }

  -- what was heard of a search up to where it stands
  pub heard_to : (first s : State) (turns : ℕ) (heard : List Progress) (far : Progress) → IsFirst q (stage_of first 0)
      → IsHeard q (stage_of first 0) 0 (heard ++ far ∷ []) (stage_of s turns) → IsHeardOn q (heard ++ far ∷ []) s
  heard_to first s turns heard far begins told = record {
    first = stage_of first 0;
    turns = turns;
    begins = begins;
    some = some_heard heard far;
    told = told;
  }
