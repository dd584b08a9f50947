-- What was heard of a search that has ended, with an answer or without one.
use Rattle.std.proofs.Common.{◌≡◌, ℕ, ◌≤◌, List, [], ◌∷◌, ◌++◌, length, Result, Ok, Err, refl, sym, inl, inr, ⊎_elim, subst}
use Rattle.std.specs.Prelude.{IfOk, MatchResult}
use Rattle.fc_moves.specs.declared.steps.Move.{Move}
use Rattle.fc_moves.specs.Run.{Wins}
use Rattle.fc_answers.specs.declared.answers.Verdict.{Verdict}
use Rattle.fc_search.specs.Problem.{Problem}
use Rattle.fc_search.specs.Search.{IsOfStatus, State}
use Rattle.fc_search.specs.declared.listeners.Progress.{Progress}
use Rattle.fc_search.specs.Watch.{IsHeard, IsHeardAtMost, IsHeardInPart, IsHeardToEnd, Stage, TellFloors, IsHeardOn, stage_of}

module _ (q : Problem) where
  module _ (heard : List Progress) (s : State) (is : IsHeardOn q heard s) where
    -- so far it was heard
    on_part : IsHeardInPart q heard
    on_part = record {
      first = is.first;
      last = stage_of s is.turns;
      begins = is.begins;
      front = heard;
      told = is.told;
      rest = inl refl;
    }

    -- with its answer, or without one
    pub ends_heard : (verdict : Verdict) → s.problem ≡ q → IsOfStatus s.problem s.store s.status verdict → IsHeardToEnd q heard verdict
    ends_heard verdict asked kind = record {
      first = is.first;
      last = stage_of s is.turns;
      begins = is.begins;
      some = is.some;
      told = is.told;
      answered = subst (λ p. IsOfStatus p s.store s.status verdict) asked kind;
    }

    pub ends_unanswered : IsHeardAtMost q heard
    ends_unanswered = inr on_part

    -- whatever was told
    pub ends_told : {V E : Type 0} (verdict_of : V → Verdict) (told : Result V E) → s.problem ≡ q
        → IfOk told (λ v. IsOfStatus s.problem s.store s.status (verdict_of v))
        → MatchResult told (λ v. IsHeardToEnd q heard (verdict_of v)) (λ refused. IsHeardAtMost q heard)
    ends_told verdict_of (Ok v) asked kind = ends_heard (verdict_of v) asked kind
    ends_told verdict_of (Err e) asked kind = ends_unanswered

  pub end_at_most : (heard : List Progress) (verdict : Verdict) → IsHeardToEnd q heard verdict → IsHeardAtMost q heard
  end_at_most heard verdict is = inr (record {
    first = is.first;
    last = is.last;
    begins = is.begins;
    front = heard;
    told = is.told;
    rest = inl refl;
  })

  -- each number of moves that is told of a search is one that no list that wins is shorter than
  heard_floors : (old new : Stage) (most : ℕ) (heard : List Progress) → IsHeard q old most heard new → TellFloors q.game q.start heard
  heard_floors old new most [] told = tt
  heard_floors old new most (far ∷ later) (mid, made, some, turned, is, greatest, rest) =
      (is.floor.least, heard_floors mid new far.most_open later rest)

  floors_on : (heard : List Progress) (far : Progress) → TellFloors q.game q.start heard
      → ((moves : List Move) → Wins q.game q.start moves → far.at_least ≤ length moves) → TellFloors q.game q.start (heard ++ far ∷ [])
  floors_on [] far floors least = (least, tt)
  floors_on (told ∷ later) far (first, rest) least = (first, floors_on later far rest least)

  pub at_most_floors : (heard : List Progress) → IsHeardAtMost q heard → TellFloors q.game q.start heard
  at_most_floors heard (inl none) = subst (TellFloors q.game q.start) (sym none) tt
  at_most_floors heard (inr part) =
      let floors = heard_floors part.first part.last 0 part.front part.told in
      ⊎_elim
      (λ same. subst (TellFloors q.game q.start) (sym same) floors)
      (λ (far, same, stop). subst (TellFloors q.game q.start) (sym same) (floors_on part.front far floors stop.floor.least))
      part.rest
