-- Lemmas on turns that are made one after the other.
use Rattle.std.proofs.Common.{◌≡◌, suc, Result, Ok, refl, sym, subst, inl, inr}
use Rattle.fc_best_first.specs.declared.turns.Status.{Status}
use Rattle.fc_best_first.specs.declared.turns.Status.TheVariants.{Running, Won, CannotWin, GaveUp, Stopped}
use Rattle.fc_best_first.specs.declared.searches.Step.{Step}
use Rattle.fc_best_first.specs.declared.searches.Step.TheVariants.{Running as running, Done}
use Rattle.fc_best_first.specs.declared.searches.SearchFault.{SearchFault}
use Rattle.fc_best_first.specs.Graph.{Graph, Task}
use Rattle.fc_best_first.specs.Store.{Store}
use Rattle.fc_best_first.specs.Turn.{Advances}
use Rattle.fc_best_first.specs.Search.{Progress, Turns, Runs, reply_of, task_of}

module _ {K : Type 0} (task : Task K) where
  pub runs_on : (before between after : Status K) (old mid new : Store K) (reply : Result Step SearchFault)
      → Turns task before old mid between reply → Runs task between mid new after → Runs task before old new after
  runs_on before between after old mid new reply t r = (suc r.0, (mid, between, reply, t, r.1))

  pub runs_none : (before : Status K) (old : Store K) → Runs task before old old before
  runs_none before old = (0, (refl, refl))

  -- a turn that took a pair replies by the status that it leaves
  pub taken_turns : (before after : Status K) (old new : Store K) (step : Step) → before ≡ Running
      → Advances task old new after → Ok step ≡ reply_of after
      → Turns task before old new after (Ok step)
  taken_turns before after old new step is takes replies =
      subst (λ s. Turns task s old new after (Ok step)) (sym is) (inl (takes, replies))

  -- one that doesn't leave the search running says that it is done
  pub done_replies : (after : Status K) (old new : Store K) → (after ≡ Running → ⊥) → Advances task old new after
      → Ok Done ≡ reply_of after
  done_replies Running old new other takes = absurd (other refl)
  done_replies (Won number) old new other takes = refl
  done_replies CannotWin old new other takes = refl
  done_replies (GaveUp y number) old new other takes = refl
  done_replies Stopped old new other takes = absurd takes

  running_replies : (after : Status K) → Ok running ≡ reply_of after → after ≡ Running
  running_replies Running h = refl
  running_replies (Won number) h = absurd (cc)
  running_replies CannotWin h = absurd (cc)
  running_replies (GaveUp y number) h = absurd (cc)
  running_replies Stopped h = absurd (cc)

  -- where there is more to do, the search runs as before
  pub running_stays : (before after : Status K) (old new : Store K) → Turns task before old new after (Ok running)
      → after ≡ before
  running_stays Running after old new (inl t) = running_replies after t.1
  running_stays Running after old new (inr t) = absurd (let h = t.1 in cc)
  running_stays (Won number) after old new t = t.1
  running_stays CannotWin after old new t = t.1
  running_stays (GaveUp y number) after old new t = t.1
  running_stays Stopped after old new t = t.1

-- a turn of a search that is still of the space, the strategy and the limit with which it began
pub turns_along : {K S : Type 0} (graph : S → Graph K) (now first : Progress S K) (before after : Status K) (old new : Store K)
    (reply : Result Step SearchFault) → now.space ≡ first.space → now.strategy ≡ first.strategy → now.limit ≡ first.limit
    → Turns (task_of graph now) before old new after reply → Turns (task_of graph first) before old new after reply
turns_along graph now first before after old new reply e f l t =
    subst (λ s. Turns (record { graph = graph s; strategy = first.strategy; limit = first.limit }) before old new after reply) e
    (subst (λ v. Turns (record { graph = graph now.space; strategy = v; limit = first.limit }) before old new after reply) f
    (subst (λ n. Turns (record { graph = graph now.space; strategy = now.strategy; limit = n }) before old new after reply) l t))
