-- What turns of a batch leave of each search.
use Rattle.std.proofs.Common.{◌≡◌, ◌≢◌, ℕ, ◌+◌, suc, [], ◌∷◌, refl, sym, ◌∙◌, ap, subst, ⊎_elim, arith}
use Rattle.std.specs.Prelude.{Option, Some, None, MatchOption, Result, Err, if◌then◌else◌}
use Rattle.std.proofs.lemmas.Bool.{cases_eq, ne_eqb, eq-eqb}
use Rattle.std.proofs.lemmas.Option.{MatchOption-at_some, MatchOption-at_none}
use Rattle.fc_best_first.specs.declared.searches.SearchFault.{SearchFault}
use Rattle.fc_best_first.specs.declared.searches.SearchFault.TheVariants.{NoSuch}
use Rattle.fc_best_first.specs.declared.searches.Step.{Step}
use Rattle.fc_search.specs.Search.{State}
use Rattle.fc_batch.specs.Batch.{Batch, Stays, TurnsAt, TurnFor, HasTurns, search_at, times}
use Rattle.fc_batch.specs.Laws.{SearchesTurnAlone, NumbersStay}

-- a turn for one number leaves the search with another as it is, and the count
pub others_kept : (i : ℕ) (o : Option State) (old new : Batch) (reply : Result Step SearchFault)
    → MatchOption o ((reply ≡ Err NoSuch) × Stays old new) (λ before. TurnsAt i old new before reply)
    → (new.added ≡ old.added) × ((j : ℕ) → j ≢ i → search_at new j ≡ search_at old j)
others_kept i None old new reply (told, stays) = (stays.added, λ j other. stays.searches j)
others_kept i (Some s) old new reply turn = (turn.added, turn.others)

-- a number that no search has, none has after a turn
none_kept : (i j : ℕ) (old new : Batch) (reply : Result Step SearchFault) → TurnFor i old new reply → search_at old j ≡ None
    → search_at new j ≡ None
none_kept i j old new reply turn none =
    ⊎_elim
    (λ (same : j ≡ i).
    let here : search_at old i ≡ None = subst (λ k. search_at old k ≡ None) same none in
    let stays = MatchOption-at_none _ _ here turn in
    stays.1.searches j ∙ none)
    (λ other. (others_kept i (search_at old i) old new reply turn).1 j other ∙ none)
    (cases_eq j i)

pub numbers_stay : NumbersStay
numbers_stay [] old new count (stays, none) = (stays.added, λ i lacks. stays.searches i ∙ lacks)
numbers_stay (j ∷ list) old new count (mid, reply, others, turn, rest, sum) =
    let kept = others_kept j (search_at old j) old mid reply turn in
    let on = numbers_stay list mid new others rest in
    (on.0 ∙ kept.0, λ i lacks. on.1 i (none_kept j i old mid reply turn lacks))

pub turn_alone : SearchesTurnAlone
turn_alone [] old new count (stays, none) i before there = (before, stays.searches i ∙ there, refl)
turn_alone (j ∷ list) old new count (mid, reply, others, turn, rest, sum) i before there =
    ⊎_elim
    (λ (same : i ≡ j).
    let here : search_at old j ≡ Some before = subst (λ k. search_at old k ≡ Some before) same there in
    let one = MatchOption-at_some _ _ before here turn in
    let at : search_at mid i ≡ Some one.after = subst (λ k. search_at mid k ≡ Some one.after) (sym same) one.there in
    let on = turn_alone list mid new others rest i one.after at in
    let one_more : suc (times i list) ≡ 1 + times i list = omega arith in
    let more : suc (times i list) ≡ times i (j ∷ list) =
    one_more ∙ ap (λ b. (if b then 1 else 0) + times i list) (sym (eq-eqb i j same)) in (
      on.0,
      on.1,
      subst (λ n. HasTurns n before on.0) more (one.after, reply, one.turn, on.2),
    ))
    (λ other.
    let at = (others_kept j (search_at old j) old mid reply turn).1 i other ∙ there in
    let on = turn_alone list mid new others rest i before at in
    let none_more : times i list ≡ 0 + times i list = omega arith in
    let same : times i list ≡ times i (j ∷ list) =
    none_more ∙ ap (λ b. (if b then 1 else 0) + times i list) (sym (ne_eqb i j other)) in
    (on.0, on.1, subst (λ n. HasTurns n before on.0) same on.2))
    (cases_eq i j)
