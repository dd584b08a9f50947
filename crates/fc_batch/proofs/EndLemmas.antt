-- Searches that have ended stay so, and a turn that doesn't reply that its search runs on finds or leaves it ended.
use Rattle.std.proofs.Common.{◌≡◌, ℕ, zero, suc, List, [], ◌∷◌, refl, sym, ◌∙◌, ap, subst, ⊎_elim, arith}
use Rattle.std.specs.Prelude.{Option, Some, None, MatchOption, Result, Err}
use Rattle.std.proofs.lemmas.Option.{none-some, same_Some}
use Rattle.fc_best_first.specs.declared.searches.SearchFault.{SearchFault}
use Rattle.fc_best_first.specs.declared.searches.SearchFault.TheVariants.{NoSuch}
use Rattle.fc_best_first.specs.declared.searches.Step.{Step}
use Rattle.fc_best_first.specs.declared.turns.Status.{Status}
use Rattle.fc_best_first.specs.declared.turns.Status.TheVariants.{Running, Won, CannotWin, GaveUp, Stopped}
use Rattle.fc_best_first.specs.Graph.{Task}
use Rattle.fc_best_first.specs.Search.{Turns, reply_of}
use Rattle.fc_best_first.specs.Store.{Store}
use Rattle.fc_search.specs.Problem.{task_of_problem}
use Rattle.fc_search.specs.Search.{State}
use Rattle.fc_batch.specs.Batch.{Batch, Stays, TurnsAt, TurnsFor, HasTurns, search_at, count_if_running}
use Rattle.fc_batch.specs.Laws.{QuietTurnsEnd}
use Rattle.fc_batch.proofs.LawLemmas.{numbers_stay, turn_alone}

module _ (task : Task (List ℕ)) (old new : Store (List ℕ)) where
  -- a turn with another reply leaves its search ended
  ended : (before after : Status (List ℕ)) (reply : Result Step SearchFault) → Turns task before old new after reply
      → count_if_running reply ≡ 0 → after ≡ Running → ⊥
  ended Running after reply turn none runs =
      ⊎_elim
      (λ (takes, told).
      let one : count_if_running reply ≡ 1 = ap count_if_running (told ∙ ap reply_of runs) in
      omega (arith, none, one))
      (λ (stopped, told). cc)
      turn
  ended (Won n) after reply (same, stays, told) none runs = cc
  ended CannotWin after reply (same, stays, told) none runs = cc
  ended (GaveUp y n) after reply (same, stays, told) none runs = cc
  ended Stopped after reply (same, stays, told) none runs = cc

  -- and any turn one that had ended
  kept : (before after : Status (List ℕ)) (reply : Result Step SearchFault) → Turns task before old new after reply
      → (before ≡ Running → ⊥) → after ≡ Running → ⊥
  kept Running after reply turn other runs = other refl
  kept (Won n) after reply (same, stays, told) other runs = cc
  kept CannotWin after reply (same, stays, told) other runs = cc
  kept (GaveUp y n) after reply (same, stays, told) other runs = cc
  kept Stopped after reply (same, stays, told) other runs = cc

-- turns of a search that has ended
all_kept : (turns : ℕ) (before after : State) → HasTurns turns before after → (before.status ≡ Running → ⊥)
    → after.status ≡ Running → ⊥
all_kept zero before after same other = subst (λ s. s.status ≡ Running → ⊥) (sym same) other
all_kept (suc turns) before after (mid, reply, turn, rest) other =
    all_kept turns mid after rest
    (kept (task_of_problem before.problem) before.store mid.store before.status mid.status reply turn.turned other)

-- a search that had a turn with another reply has ended, whatever turns follow
ends_at : (j : ℕ) (o : Option State) (old mid new : Batch) (reply : Result Step SearchFault) (list : List ℕ) (count : ℕ)
    → MatchOption o ((reply ≡ Err NoSuch) × Stays old mid) (λ before. TurnsAt j old mid before reply) → search_at old j ≡ o
    → count_if_running reply ≡ 0 → TurnsFor list mid new count → (s : State) → search_at new j ≡ Some s → s.status ≡ Running → ⊥
ends_at j None old mid new reply list count (told, stays) there none rest s at runs =
    let gone = (numbers_stay list mid new count rest).1 j (stays.searches j ∙ there) in
    none-some s (sym gone ∙ at)
ends_at j (Some before) old mid new reply list count turn there none rest s at runs =
    let on = turn_alone list mid new count rest j turn.after turn.there in
    let same : on.0 ≡ s = same_Some on.0 s (sym on.1 ∙ at) in
    let own = turn.turn in
    let end = ended (task_of_problem before.problem) before.store turn.after.store before.status turn.after.status reply
    own.turned none in
    subst (λ v. v.status ≡ Running → ⊥) same (all_kept _ turn.after on.0 on.2 end) runs

pub quiet_turns_end : QuietTurnsEnd
quiet_turns_end [] old new count turns none k i s listed at = absurd (none-some i listed)
quiet_turns_end (j ∷ list) old new count (mid, reply, others, turn, rest, sum) none zero i s listed at =
    let same : j ≡ i = same_Some j i listed in
    let quiet : count_if_running reply ≡ 0 = omega (arith, sum, none) in
    let there : search_at new j ≡ Some s = subst (λ n. search_at new n ≡ Some s) (sym same) at in
    ends_at j (search_at old j) old mid new reply list others turn refl quiet rest s there
quiet_turns_end (j ∷ list) old new count (mid, reply, others, turn, rest, sum) none (suc k) i s listed at =
    quiet_turns_end list mid new others rest (omega (arith, sum, none)) k i s listed at
