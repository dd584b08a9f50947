-- The searches of a batch as the entries of a map, and what turns do to them.
use Rattle.std.proofs.Common.{◌≡◌, ◌≢◌, ℕ, ◌+◌, ◌<◌, ◌≤◌, false, cond, List, [], ◌∷◌, ◌++◌, refl, sym, ◌∙◌, ap, subst, ⊎_elim, arith}
use Rattle.std.specs.Prelude.{Option, Some, None, MatchOption, Result, Ok, Err, nat_eq, sum_by}
use Rattle.std.specs.Cmp.{nat_eq_equiv}
use Rattle.std.specs.Map.{lookup, values_of, set_value}
use Rattle.std.proofs.lemmas.Bool.{cases_eq, ne_eqb}
use Rattle.std.proofs.lemmas.Option.{none-some}
use Rattle.std.proofs.lemmas.Map.Entries.{sum_by-set_value}
use Rattle.fc_best_first.specs.declared.searches.SearchFault.{SearchFault}
use Rattle.fc_best_first.specs.declared.searches.SearchFault.TheVariants.{NoSuch}
use Rattle.fc_best_first.specs.declared.searches.Step.{Step}
use Rattle.fc_best_first.specs.declared.searches.Step.TheVariants.{Running, Done}
use Rattle.fc_best_first.specs.declared.turns.Status.{Status}
use Rattle.fc_best_first.specs.declared.turns.Status.TheVariants as status
use Rattle.fc_best_first.specs.Graph.{Task}
use Rattle.fc_best_first.specs.Search.{Turns}
use Rattle.fc_best_first.specs.Store.{Store}
use Rattle.fc_best_first.specs.Turn.{work_left as left_of}
use Rattle.fc_search.specs.Problem.{Problem, task_of_problem}
use Rattle.fc_search.specs.Search.{State}
use Rattle.fc_batch.specs.Batch.{Batch, Stays, TurnsAt, TurnFor, TurnsFor, HasTurn, NumbersWereGiven, search_numbered, search_at, count_if_running, while_running, work_of, work_left}

-- the search with a number is what a look-up finds
pub found_looked : (es : List (ℕ × State)) (i : ℕ) → search_numbered es i ≡ lookup (nat_eq i) es
found_looked [] i = refl
found_looked ((n, s) ∷ es) i =
    let same : nat_eq n i ≡ nat_eq i n = nat_eq_equiv.symm n i in
    λ j. cond (same j) (Some s) (found_looked es i j)

-- where each look-up but that of one number finds the same, the other searches stay
pub others_looked : (i : ℕ) (es fs : List (ℕ × State))
    → ((j : ℕ) → nat_eq i j ≡ false → lookup (nat_eq j) fs ≡ lookup (nat_eq j) es) → (j : ℕ) → j ≢ i → search_numbered fs j ≡ search_numbered es j
others_looked i es fs same j other =
    found_looked fs j ∙ same j (ne_eqb i j (λ e. other (sym e))) ∙ sym (found_looked es j)

-- where only the search with one number comes or goes, the numbers of the others were given
others_given : (i added : ℕ) (es fs : List (ℕ × State))
    → ((j : ℕ) → nat_eq i j ≡ false → lookup (nat_eq j) fs ≡ lookup (nat_eq j) es)
    → NumbersWereGiven (record { searches = es; added = added }) → (j : ℕ) (s : State) → j ≢ i → search_numbered fs j ≡ Some s → j < added
others_given i added es fs same given j s other at = given j s (sym (others_looked i es fs same j other) ∙ at)

-- the next number is given with its search
pub given_added : (added : ℕ) (es fs : List (ℕ × State))
    → ((j : ℕ) → nat_eq added j ≡ false → lookup (nat_eq j) fs ≡ lookup (nat_eq j) es)
    → NumbersWereGiven (record { searches = es; added = added }) → NumbersWereGiven (record { searches = fs; added = added + 1 })
given_added added es fs same given j s at =
    ⊎_elim
    (λ (own : j ≡ added). omega (arith, own))
    (λ other. let below = others_given added added es fs same given j s other at in omega (arith, below))
    (cases_eq j added)

-- a number whose search was taken out is held no more
pub given_taken : (i added : ℕ) (es fs : List (ℕ × State))
    → ((j : ℕ) → nat_eq i j ≡ false → lookup (nat_eq j) fs ≡ lookup (nat_eq j) es)
    → lookup (nat_eq i) fs ≡ None → NumbersWereGiven (record { searches = es; added = added })
    → NumbersWereGiven (record { searches = fs; added = added })
given_taken i added es fs same gone given j s at =
    ⊎_elim
    (λ (own : j ≡ i).
    let here : search_numbered fs i ≡ Some s = subst (λ k. search_numbered fs k ≡ Some s) own at in
    absurd (none-some s (sym gone ∙ sym (found_looked fs i) ∙ here)))
    (λ other. others_given i added es fs same given j s other at)
    (cases_eq j i)

-- a batch stays as it is
pub stays_self : (b : Batch) → Stays b b
stays_self b = record { searches = λ i. refl; added = refl }

-- a turn of a batch that is as another is a turn of that one
turn_of : (i : ℕ) (o p : Option State) (old mid new : Batch) (reply : Result Step SearchFault) → p ≡ o → Stays old mid
    → MatchOption p ((reply ≡ Err NoSuch) × Stays mid new) (λ before. TurnsAt i mid new before reply)
    → MatchOption o ((reply ≡ Err NoSuch) × Stays old new) (λ before. TurnsAt i old new before reply)
turn_of i o p old mid new reply same stays turn =
    subst (λ q. MatchOption q ((reply ≡ Err NoSuch) × Stays old new) (λ before. TurnsAt i old new before reply)) same
    (by_kind p turn)
  where
    by_kind : (q : Option State) → MatchOption q ((reply ≡ Err NoSuch) × Stays mid new) (λ before. TurnsAt i mid new before reply)
        → MatchOption q ((reply ≡ Err NoSuch) × Stays old new) (λ before. TurnsAt i old new before reply)
    by_kind None (told, on) = (told, record { searches = λ j. on.searches j ∙ stays.searches j; added = on.added ∙ stays.added })
    by_kind (Some s) t = record {
      after = t.after;
      there = t.there;
      turn = t.turn;
      others = λ j other. t.others j other ∙ stays.searches j;
      added = t.added ∙ stays.added;
    }

-- one more turn after those of a list
pub one_more : (list : List ℕ) (i : ℕ) (old mid new : Batch) (count : ℕ) (reply : Result Step SearchFault)
    → TurnsFor list old mid count → TurnFor i mid new reply → TurnsFor (list ++ i ∷ []) old new (count + count_if_running reply)
one_more [] i old mid new count reply (stays, none) turn = (
  new,
  reply,
  0,
  turn_of i (search_at old i) (search_at mid i) old mid new reply (stays.searches i) stays turn,
  (stays_self new, refl),
  omega (arith, none),
)
one_more (j ∷ list) i old mid new count reply (next, told, others, first, rest, sum) turn =
    let on = one_more list i next mid new others reply rest turn in
    (next, told, others + count_if_running reply, first, on, omega (arith, sum))

few : (reply : Result Step SearchFault) → count_if_running reply ≤ 1
few (Ok Running) = omega arith
few (Ok Done) = omega arith
few (Err fault) = omega arith

by_status : (task : Task (List ℕ)) (old new : Store (List ℕ)) (before after : Status (List ℕ))
    (reply : Result Step SearchFault) → Turns task before old new after reply → (reply ≡ Ok Running → left_of task.strategy.budget new < left_of task.strategy.budget old)
    → while_running after (left_of task.strategy.budget new) + count_if_running reply ≤ while_running before (left_of task.strategy.budget old)
by_status task old new status.Running status.Running reply turn falls =
    ⊎_elim
    (λ (takes, told). let less = falls told in let one : count_if_running reply ≡ 1 = ap count_if_running told in omega (arith, less, one))
    (λ (stopped, told). absurd cc)
    turn
by_status task old new status.Running (status.Won n) reply turn falls = omega (arith, few reply)
by_status task old new status.Running status.CannotWin reply turn falls = omega (arith, few reply)
by_status task old new status.Running (status.GaveUp y n) reply turn falls = omega (arith, few reply)
by_status task old new status.Running status.Stopped reply turn falls = omega (arith, few reply)
by_status task old new (status.Won n) after reply (same, stays, told) falls =
    let none : count_if_running reply ≡ 0 = ap count_if_running told in
    let nothing : while_running after (left_of task.strategy.budget new) ≡ 0 = ap (λ s. while_running s (left_of task.strategy.budget new)) stays in
    omega (arith, none, nothing)
by_status task old new status.CannotWin after reply (same, stays, told) falls =
    let none : count_if_running reply ≡ 0 = ap count_if_running told in
    let nothing : while_running after (left_of task.strategy.budget new) ≡ 0 = ap (λ s. while_running s (left_of task.strategy.budget new)) stays in
    omega (arith, none, nothing)
by_status task old new (status.GaveUp y n) after reply (same, stays, told) falls =
    let none : count_if_running reply ≡ 0 = ap count_if_running told in
    let nothing : while_running after (left_of task.strategy.budget new) ≡ 0 = ap (λ s. while_running s (left_of task.strategy.budget new)) stays in
    omega (arith, none, nothing)
by_status task old new status.Stopped after reply (same, stays, told) falls =
    let none : count_if_running reply ≡ 0 = ap count_if_running told in
    let nothing : while_running after (left_of task.strategy.budget new) ≡ 0 = ap (λ s. while_running s (left_of task.strategy.budget new)) stays in
    omega (arith, none, nothing)

-- a turn leaves its search less to do, where it runs on, and never more
turn_falls : (before after : State) (reply : Result Step SearchFault) → HasTurn before after reply
    → (reply ≡ Ok Running → left_of before.problem.method.strategy.budget after.store < left_of before.problem.method.strategy.budget before.store)
    → work_of after + count_if_running reply ≤ work_of before
turn_falls before after reply turn falls =
    let less = by_status (task_of_problem before.problem) before.store after.store before.status after.status reply
    turn.turned falls in
    let same = ap (λ (p : Problem). while_running after.status (left_of p.method.strategy.budget after.store)) turn.problem in
    omega (arith, less, same)

-- what a map's entries are after its search with a number was written to
module _ (i : ℕ) (es fs : List (ℕ × State)) (before after : State) (there : lookup (nat_eq i) es ≡ Some before) where
  -- the search with the number had a turn, and the others stay
  pub turned : (added : ℕ) (reply : Result Step SearchFault) → lookup (nat_eq i) fs ≡ Some after
      → ((j : ℕ) → nat_eq i j ≡ false → lookup (nat_eq j) fs ≡ lookup (nat_eq j) es) → HasTurn before after reply
      → TurnFor i (record { searches = es; added = added }) (record { searches = fs; added = added }) reply
  turned added reply now same turn =
      let old : Batch = record { searches = es; added = added } in
      let new : Batch = record { searches = fs; added = added } in
      let at : TurnsAt i old new before reply = record {
        after = after;
        there = found_looked fs i ∙ now;
        turn = turn;
        others = others_looked i es fs same;
        added = refl;
      } in
      subst (λ o. MatchOption o ((reply ≡ Err NoSuch) × Stays old new) (λ b. TurnsAt i old new b reply))
      (sym (found_looked es i ∙ there)) at

  -- the numbers that searches are held under were given
  pub given_kept : (added : ℕ) → ((j : ℕ) → nat_eq i j ≡ false → lookup (nat_eq j) fs ≡ lookup (nat_eq j) es)
      → NumbersWereGiven (record { searches = es; added = added }) → NumbersWereGiven (record { searches = fs; added = added })
  given_kept added same given j s at =
      ⊎_elim
      (λ (own : j ≡ i). subst (λ k. k < added) (sym own) (given i before (found_looked es i ∙ there)))
      (λ other. others_given i added es fs same given j s other at)
      (cases_eq j i)

  -- what is left to do falls where the search runs on, and never rises
  pub work_falls : (added : ℕ) (reply : Result Step SearchFault) → fs ≡ set_value (nat_eq i) es after → HasTurn before after reply
      → (reply ≡ Ok Running → left_of before.problem.method.strategy.budget after.store < left_of before.problem.method.strategy.budget before.store)
      → work_left (record { searches = fs; added = added }) + count_if_running reply ≤ work_left (record { searches = es; added = added })
  work_falls added reply written turn falls =
      let less = turn_falls before after reply turn falls in
      let sum = sum_by-set_value work_of (nat_eq i) es before after there in
      let same = ap (λ l. sum_by work_of (values_of l)) written in
      omega (arith, sum, same, less)

-- where no search has the number, nothing had a turn
pub none_turned : (i added : ℕ) (es fs : List (ℕ × State)) → lookup (nat_eq i) es ≡ None → fs ≡ es
    → TurnFor i (record { searches = es; added = added }) (record { searches = fs; added = added }) (Err NoSuch)
none_turned i added es fs none same =
    let old : Batch = record { searches = es; added = added } in
    let new : Batch = record { searches = fs; added = added } in
    let reply : Result Step SearchFault = Err NoSuch in
    let stays : Stays old new = record { searches = λ j. ap (λ l. search_numbered l j) same; added = refl } in
    let told : (reply ≡ Err NoSuch) × Stays old new = (refl, stays) in
    subst (λ o. MatchOption o ((reply ≡ Err NoSuch) × Stays old new) (λ b. TurnsAt i old new b reply))
    (sym (found_looked es i ∙ none)) told

-- no search is held under the next number
pub none_next : (batch : Batch) → NumbersWereGiven batch → search_at batch batch.added ≡ None
none_next batch given = go (search_at batch batch.added) refl
  where
    go : (o : Option State) → search_at batch batch.added ≡ o → search_at batch batch.added ≡ None
    go None e = e
    go (Some search_there) e = let below = given batch.added search_there e in absurd (omega (arith, below))
