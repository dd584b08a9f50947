-- What verdicts promise that are told in memory.
use Rattle.std.specs.Prelude.{◌≡◌, ℕ, false, List, [], Some}
use Rattle.fc_answers.specs.declared.answers.Verdict.{Verdict}
use Rattle.fc_answers.specs.Verdict.{outcome_of}
use Rattle.fc_answer_text.specs.AnswerText.{answer_text, status_of}
use Rattle.fc_board_runs.specs.Devices.{Device}
use Rattle.fc_methods.specs.Method.{QuestionData}
use Rattle.fc_position.specs.Board.{Board}
use Rattle.fc_search.specs.Problem.{Problem, problem_of}
use Rattle.fc_best.specs.Answering.{IsVerdictFor}
use Rattle.fc_runs.specs.Solving.{IsCertified}
use Rattle.fc_library.specs.declared.told_answers.Certified.{Certified}
use Rattle.fc_library.specs.declared.told_answers.Told.{Told}

-- a sink that held nothing, and holds these bytes now
abbrev pub sink_holding : List ℕ → Device
sink_holding bytes = record { old = Some []; new = Some bytes; failed = false }

-- a verdict was told: its text, how many moves its list has and the floor, and its status
pub record IsVerdictTold (verdict : Verdict) (told : Told) : Type 0 where
  pub written : told.text.items ≡ answer_text verdict
  pub numbers : told.outcome ≡ Some (outcome_of verdict)
  pub status : told.status ≡ status_of verdict
  pub place : told.place ≡ 0

-- and what there is of certificates of it
pub record IsVerdictCertified (p : Problem) (verdict : Verdict) (both : Certified) : Type 0 where
  pub told : IsVerdictTold verdict both.told
  pub certificate : IsCertified p verdict (sink_holding both.certificate.items)

-- a verdict that answers a question for a board was told
abbrev pub IsAnswerTold : QuestionData → Board → Told → Type 0
IsAnswerTold q b told = (verdict : Verdict) × IsVerdictFor q b verdict × IsVerdictTold verdict told

-- and certified
abbrev pub IsAnswerCertified : QuestionData → Board → Certified → Type 0
IsAnswerCertified q b both = (verdict : Verdict) × IsVerdictFor q b verdict × IsVerdictCertified (problem_of q b) verdict both
