-- Turns that are made one after the other, and how many there may be.
use Rattle.std.proofs.Common.{◌≡◌, ℕ, ◌+◌, ◌-◌, ◌*◌, ◌^◌, ◌≤◌, suc, zero, Result, Ok, Err, List, [], ◌∷◌, length, refl, sym, ◌∙◌, ap, subst, inl, inr, zero-add, arith}
use Rattle.std.specs.Prelude.{MatchResult, sum_by}
use Rattle.std.proofs.Math.Nat.{mul-le-mul}
use Rattle.std.proofs.lemmas.List.Sorted.{length_permutation}
use Rattle.fc_best_first.specs.declared.books.Mark.{Mark}
use Rattle.fc_best_first.specs.declared.books.Opening.{Opening}
use Rattle.fc_best_first.specs.declared.turns.Status.{Status}
use Rattle.fc_best_first.specs.declared.turns.Status.TheVariants.{Running, Won, CannotWin, GaveUp, Stopped}
use Rattle.fc_best_first.specs.declared.limits.TheConstants.{MOST_GREAT_BUDGET}
use Rattle.fc_best_first.specs.declared.searches.Step.{Step}
use Rattle.fc_best_first.specs.declared.searches.Step.TheVariants.{Running as running}
use Rattle.fc_best_first.specs.declared.searches.SearchFault.{SearchFault}
use Rattle.fc_best_first.specs.declared.searches.SearchFault.TheVariants.{Memory}
use Rattle.fc_best_first.specs.Graph.{Task, IsLawful}
use Rattle.fc_best_first.specs.Store.{Store}
use Rattle.fc_best_first.specs.Search.{Begins, FloorAfter, Turns, TurnsOn, reply_of}
use Rattle.fc_best_first.specs.Turn.{work_left}
use Rattle.fc_best_first.proofs.WorkLemmas.{costs_twice}
use Rattle.fc_search.specs.Problem.{Problem, task_of_problem}
use Rattle.fc_search.specs.Search.{State}
use Rattle.fc_search.specs.Watch.{Stage, TurnsMany, TurnsOnce, stage_of}

module _ (q : Problem) where
  -- some turns, and then one more
  pub turns_more : (made : ℕ) (old mid new : Stage) → TurnsMany made q old mid → TurnsOnce q mid new
      → TurnsMany (made + 1) q old new
  turns_more zero old mid new same one = (new, subst (λ s. TurnsOnce q s new) same one, refl)
  turns_more (suc made) old mid new (next, first, rest) one =
      let count : suc (made + 1) ≡ suc made + 1 = omega arith in
      subst (λ n. TurnsMany n q old new) count (next, first, turns_more made next mid new rest one)

  -- turns with their floors are turns
  pub turns_on : (made : ℕ) (old new : Stage) → TurnsMany made q old new
      → TurnsOn made (task_of_problem q) old.status old.store new.store new.status
  turns_on zero old new same = (ap (λ (s : Stage). s.store) same, ap (λ (s : Stage). s.status) same)
  turns_on (suc made) old new (mid, one, rest) = (mid.store, mid.status, one.reply, one.turn, turns_on made mid new rest)

  -- a turn of a search that is still of the problem with which it began
  pub one_turn : (old new : State) (before : ℕ) (reply : Result Step SearchFault) → old.problem ≡ q
      → Turns (task_of_problem old.problem) old.status old.store new.store new.status reply
      → FloorAfter old.status old.store.waiting old.floor new.floor
      → TurnsOnce q (stage_of old before) (stage_of new (before + 1))
  one_turn old new before reply asked turn floor = record {
    reply = reply;
    turn = subst (λ p. Turns (task_of_problem p) old.status old.store new.store new.status reply) asked turn;
    floor = floor;
    counted = refl;
  }

module _ {K : Type 0} (task : Task K) where
  -- some turns, and then some more
  pub turns_both : (first then : ℕ) (before between after : Status K) (old mid new : Store K)
      → TurnsOn first task before old mid between → TurnsOn then task between mid new after
      → TurnsOn (first + then) task before old new after
  turns_both zero then before between after old mid new (same, stays) more =
      let count : then ≡ 0 + then = omega arith in
      subst (λ n. TurnsOn n task before old new after) count
      (subst (λ s. TurnsOn then task s old new after) stays
      (subst (λ s. TurnsOn then task between s new after) same more))
  turns_both (suc first) then before between after old mid new (next, state, told, one, rest) more =
      let count : suc (first + then) ≡ suc first + then = omega arith in
      subst (λ n. TurnsOn n task before old new after) count
      (next, state, told, one, turns_both first then state between after next mid new rest more)

  -- what a turn of a running search replies, by the status that it leaves
  pub turn_replies : (after : Status K) (old new : Store K) (reply : Result Step SearchFault)
      → Turns task Running old new after reply
      → MatchResult reply (λ step. reply_of after ≡ Ok step) (λ f. (f ≡ Memory) × (after ≡ Stopped))
  turn_replies after old new (Ok step) (inl (takes, same)) = sym same
  turn_replies after old new (Ok step) (inr (stopped, same)) = absurd (cc)
  turn_replies Running old new (Err f) (inl (takes, same)) = absurd (cc)
  turn_replies (Won number) old new (Err f) (inl (takes, same)) = absurd (cc)
  turn_replies CannotWin old new (Err f) (inl (takes, same)) = absurd (cc)
  turn_replies (GaveUp y number) old new (Err f) (inl (takes, same)) = absurd (cc)
  turn_replies Stopped old new (Err f) (inl (takes, same)) = absurd takes
  turn_replies after old new (Err f) (inr (stopped, same)) = (cc, stopped)

  -- a status that replies that there is more to do
  pub replies_running : (status : Status K) → reply_of status ≡ Ok running → status ≡ Running
  replies_running Running h = refl
  replies_running (Won number) h = absurd (cc)
  replies_running CannotWin h = absurd (cc)
  replies_running (GaveUp y number) h = absurd (cc)
  replies_running Stopped h = absurd (cc)

  -- a status that replies at all is not that of a search that was stopped
  pub replies_going : (status : Status K) (step : Step) → reply_of status ≡ Ok step → status ≡ Stopped → ⊥
  replies_going status step replied stopped = absurd (let e = sym (ap (λ (s : Status K). reply_of s) stopped) ∙ replied in cc)

-- a turn that replied neither that there is more to do nor that the search is done stopped it
pub ended_stopped : {K : Type 0} (reply : Result Step SearchFault) (status : Status K) → ((step : Step) → reply ≡ Ok step → ⊥)
    → MatchResult reply (λ step. reply_of status ≡ Ok step) (λ f. (f ≡ Memory) × (status ≡ Stopped)) → status ≡ Stopped
ended_stopped (Ok step) status other replied = absurd (other step refl)
ended_stopped (Err f) status other replied = replied.1

-- how much a search may do that has had no turn
first_rises : (new : List Opening) (opening : Opening) → new ≡ opening ∷ [] → sum_by (λ o. 28050 - o.over) new ≤ 28050
first_rises new opening one =
    let e : sum_by (λ o. 28050 - o.over) new ≡ 28050 - opening.over =
    ap (sum_by (λ (o : Opening). 28050 - o.over)) one ∙ zero-add (28050 - opening.over) in
    omega (arith, e)

module _ {K : Type 0} (task : Task K) where
  pub begun_work : (s : Store K) → IsLawful task.graph → Begins task s → task.strategy.budget ≤ MOST_GREAT_BUDGET
      → work_left task.strategy.budget s ≤ 3 * 2 ^ 62
  begun_work s lawful (x, cost, opening, starts, opens, stored, waiting, noted) few =
      let budget = task.strategy.budget in
      let low : cost ≤ 1000 = (let spared = lawful.starts x cost starts in omega (arith, spared)) in
      let one : length s.waiting ≡ 1 = length_permutation _ s.waiting waiting in
      let sum : sum_by (λ e. e.1.cost) s.stored ≡ cost = ap (sum_by (λ (e : K × Mark). e.1.cost)) stored ∙ zero-add cost in
      let rise = first_rises s.openings _ noted in
      let each : budget * (budget + 2001) ≤ 16000000 * (16000000 + 2001) =
      mul-le-mul {n₂ = 16000000} {m₂ = 16000000 + 2001} (omega (arith, few)) (omega (arith, few)) in
      omega (arith, low, one, sum, each, costs_twice budget, rise)
