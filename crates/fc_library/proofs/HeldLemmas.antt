-- What was handed to sinks in memory.
use Rattle.std.proofs.Common.{inl, inr, ◌≡◌, ℕ, List, [], Some, Result, Ok, Err, subst}
use Rattle.std.specs.Prelude.{◌⊎◌, IfOk}
use Rattle.fc_io.specs.Moves.{Stays, TakesBytes}
use Rattle.fc_answers.specs.declared.answers.Verdict.{Verdict}
use Rattle.fc_answers.specs.declared.answers.Verdict.TheVariants.{Shortest, Won, CannotWin, GaveUp}
use Rattle.fc_board_runs.specs.Devices.{Device}
use Rattle.fc_search.specs.Problem.{Problem}
use Rattle.fc_runs.specs.Solving.{IsCertified, IsTooLong, TakesCertificate}
use Rattle.fc_library.specs.Answers.{sink_holding}
use Rattle.fc_library.specs.declared.call_refusals.CallRefusal.{CallRefusal}

-- what holds of a sink that held nothing and holds these bytes now
module _ (sink : Device) (bytes : List ℕ) (empty : sink.old ≡ Some []) (full : sink.new ≡ Some bytes) where
  takes_held : (told : List ℕ) → TakesBytes sink.old sink.new told → TakesBytes (Some []) (Some bytes) told
  takes_held told taken = subst (λ o. TakesBytes o (Some bytes) told) empty (subst (λ n. TakesBytes sink.old n told) full taken)

  stays_held : Stays sink.old sink.new → Stays (Some []) (Some bytes)
  stays_held stays = subst (λ o. Stays o (Some bytes)) empty (subst (λ n. Stays sink.old n) full stays)

  written_held : (p : Problem) (verdict : Verdict) → TakesCertificate p verdict sink ⊎ IsTooLong p verdict sink
      → TakesCertificate p verdict (sink_holding bytes) ⊎ IsTooLong p verdict (sink_holding bytes)
  written_held p verdict (inl ((own, is, taken), sound)) = inl ((own, is, takes_held own taken), λ failed. absurd (cc failed))
  written_held p verdict (inr is) = inr (record {
    answered = is.answered;
    of_verdict = is.of_verdict;
    certifiable = is.certifiable;
    too_long = is.too_long;
    certificate = is.certificate;
    untouched = stays_held is.untouched;
  })

  pub certified_held : (p : Problem) (verdict : Verdict) → IsCertified p verdict sink → IsCertified p verdict (sink_holding bytes)
  certified_held p (Shortest moves) is = written_held p (Shortest moves) is
  certified_held p (Won moves floor) is = written_held p (Won moves floor) is
  certified_held p CannotWin is = written_held p CannotWin is
  certified_held p (GaveUp told) is = stays_held is

-- what a fact of an `Ok` gives
pub told_so : {A : Type 0} (P Q : A → Type 0) (result : Result A CallRefusal) → ((told : A) → P told → Q told) → IfOk result P → IfOk result Q
told_so P Q (Ok told) gives is = gives told is
told_so P Q (Err refusal) gives is = tt
