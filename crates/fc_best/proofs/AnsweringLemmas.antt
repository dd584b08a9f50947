-- What is answered of a question in one way, whatever is sought.
use Rattle.std.proofs.Common.{Result, Ok, Err}
use Rattle.std.specs.Prelude.{IfOk, List, MatchResult}
use Rattle.fc_position.specs.Board.{Board}
use Rattle.fc_answers.specs.declared.answers.Verdict.{Verdict}
use Rattle.fc_methods.specs.Method.{QuestionData}
use Rattle.fc_methods.specs.declared.methods.Sought.TheVariants.{ByMethod}
use Rattle.fc_search.specs.Problem.{problem_of}
use Rattle.fc_search.specs.Watch.{Report, HearsAll, HearsFar, IsHeardAtMost, IsHeardToEnd}
use Rattle.fc_search.specs.declared.listeners.Progress.{Progress}
use Rattle.fc_search.proofs.EndLemmas.{end_at_most}
use Rattle.fc_best.specs.Answering.{HearsOfThem, HearsVerdict}

module _ {L A E : Type 0} (hears : L → Report → L → Type 0) (q : QuestionData) (b : Board) (verdict_of : A → Verdict) (old new : L) where
  -- what was heard of a search by the question's method, which came to this
  abbrev pub IsHeardTo : Result A E → Type 0
  IsHeardTo result = (heard : List Progress) × HearsAll (HearsFar hears) old heard new
      × MatchResult result (λ a. IsHeardToEnd (problem_of q b) heard (verdict_of a)) (λ refused. IsHeardAtMost (problem_of q b) heard)

  pub heard_by_method : (result : Result A E) → IsHeardTo result → HearsOfThem hears ByMethod q b old new
  heard_by_method (Ok a) (heard, hearing, is) = (heard, hearing, end_at_most (problem_of q b) heard (verdict_of a) is)
  heard_by_method (Err e) (heard, hearing, is) = (heard, hearing, is)

  pub ended_by_method : (result : Result A E) → IsHeardTo result → IfOk result (λ a. HearsVerdict hears ByMethod q b (verdict_of a) old new)
  ended_by_method (Ok a) (heard, hearing, is) = (heard, hearing, is)
  ended_by_method (Err e) is = tt
