-- What solving promises, over any source and any sinks.
use Rattle.std.specs.Prelude.{◌≡◌, ◌⊎◌, ◌<◌, ◌≤◌, ℕ, List, [], length, Option, Some, None, IfSome, IsTrue}
use Rattle.fc_io.specs.Moves.{TakesBytes, TakesFront, Stays}
use Rattle.fc_position.specs.Board.{Board}
use Rattle.fc_moves.specs.declared.steps.Move.{Move}
use Rattle.fc_answers.specs.Answer.{HasGivenUp}
use Rattle.fc_answers.specs.declared.answers.Answer.{Answer}
use Rattle.fc_answers.specs.declared.answers.Verdict.{Verdict}
use Rattle.fc_answers.specs.declared.answers.Verdict.TheVariants.{Shortest, Won, CannotWin, GaveUp}
use Rattle.fc_best_first.specs.Limits.{IsBudget}
use Rattle.fc_methods.specs.Method.{QuestionData}
use Rattle.fc_search.specs.Problem.{Problem, problem_of}
use Rattle.fc_search.specs.Search.{IsOneOfThree}
use Rattle.fc_search.specs.Watch.{Report}
use Rattle.fc_best.specs.Answering.{HearsVerdict, IsCertifiable, IsDecided, IsVerdictFor}
use Rattle.fc_cert.specs.declared.certificates.TheConstants.{LONGEST_CERTIFICATE}
use Rattle.fc_cert.specs.declared.claims.Claim.{Claim}
use Rattle.fc_cert.specs.declared.claims.Claim.TheVariants as claim
use Rattle.fc_cert.specs.Claim.{IsCertificate, IsWrittenAs, written_form}
use Rattle.fc_cert.specs.Content.{Content, IsSpelled, bytes_of}
use Rattle.fc_board_runs.specs.declared.faults.Input.TheVariants.{Board as of_board}
use Rattle.fc_board_runs.specs.declared.faults.Output.TheVariants.{Answer as of_answer, Cert as of_certificate}
use Rattle.fc_board_runs.specs.declared.faults.ProgramFault.{ProgramFault}
use Rattle.fc_board_runs.specs.declared.faults.ProgramFault.TheVariants.{Budget, Board as bad_board, Read, Write, Memory}
use Rattle.fc_board_runs.specs.Devices.{Device, GivesBoard, GivesFault, IsUntouched}
use Rattle.fc_answer_text.specs.AnswerText.{answer_text, status_of}
use Rattle.fc_runs.specs.declared.certifying.Certification.{Certification}
use Rattle.fc_runs.specs.declared.certifying.Certification.TheVariants.{Written, GaveUp as NoneAsGivenUp, TooLong}
use Rattle.fc_runs.specs.declared.certifying.TheConstants.{FEW_CLASSES}

-- what a verdict claims, if anything: a search that gave up claims nothing
abbrev pub claim_of : Verdict → Option Claim
claim_of (Shortest moves) = Some (claim.Shortest (length moves))
claim_of (Won moves floor) = Some (claim.Between floor (length moves))
claim_of CannotWin = Some claim.CannotWin
claim_of (GaveUp told) = None

-- the moves that a verdict tells
abbrev pub moves_of : Verdict → List Move
moves_of (Shortest moves) = moves
moves_of (Won moves floor) = moves
moves_of CannotWin = []
moves_of (GaveUp told) = []

-- the bytes are a certificate of what the verdict claims of the start, by the home rule and the bound of the method, in the
-- second form where that says all and else in the third, and list its moves
pub record IsCertificateOf (p : Problem) (verdict : Verdict) (bytes : List ℕ) : Type 0 where
  pub claim : Claim
  pub claimed : claim_of verdict ≡ Some claim
  pub proves : IsCertificate p.game p.start bytes claim
  pub content : Content
  pub spelled : IsSpelled bytes content
  pub form : content.head.form ≡ written_form p.method.bound content.head.kind
  pub ruled : content.head.rule ≡ p.method.rule
  pub bound : content.head.bound ≡ p.method.bound
  pub listed : content.moves ≡ moves_of verdict

-- the bytes are a certificate of it, and no more than are read
abbrev pub IsShortCertificateOf : Problem → Verdict → List ℕ → Type 0
IsShortCertificateOf p verdict bytes = IsCertificateOf p verdict bytes × (length bytes ≤ LONGEST_CERTIFICATE)

-- a sink took a certificate of the verdict, all of it
abbrev pub TakesCertificate : Problem → Verdict → Device → Type 0
TakesCertificate p verdict sink =
    ((bytes : List ℕ) × IsShortCertificateOf p verdict bytes × TakesBytes sink.old sink.new bytes) × (IsTrue sink.failed → ⊥)

-- the content that the answer is written as has more bytes than are read: so it lists more classes than few, and no more than the
-- budget
pub record IsTooLongFor (p : Problem) (answered : Answer) : Type 0 where
  pub content : Content
  pub written : IsWrittenAs p.game answered content
  pub many : FEW_CLASSES < length content.rows
  pub within : length content.rows ≤ p.method.strategy.budget
  pub long : LONGEST_CERTIFICATE < length (bytes_of content)

-- nothing is written: the answer with this verdict, which can be certified, is written as a content that is too long
pub record IsTooLong (p : Problem) (verdict : Verdict) (sink : Device) : Type 0 where
  pub answered : Answer
  pub of_verdict : answered.verdict ≡ verdict
  pub certifiable : IsCertifiable p answered
  pub too_long : IsTooLongFor p answered
  pub certificate : IsCertificateOf p verdict (bytes_of too_long.content)
  pub untouched : IsUntouched sink

-- what became of the certificate of an answer: a sink took it, all of it; or the answer gave up, or it is too long, and nothing is
-- written
abbrev pub IsCertifiedSo : Problem → Answer → Device → Certification → Type 0
IsCertifiedSo p answered sink Written = TakesCertificate p answered.verdict sink
IsCertifiedSo p answered sink NoneAsGivenUp = HasGivenUp answered.verdict × IsUntouched sink
IsCertifiedSo p answered sink TooLong = IsTooLongFor p answered × IsUntouched sink

-- a sink took what there is of certificates of the verdict: one that isn't too long, and of giving up nothing
abbrev pub IsCertified : Problem → Verdict → Device → Type 0
IsCertified p (Shortest moves) sink = TakesCertificate p (Shortest moves) sink ⊎ IsTooLong p (Shortest moves) sink
IsCertified p (Won moves floor) sink = TakesCertificate p (Won moves floor) sink ⊎ IsTooLong p (Won moves floor) sink
IsCertified p CannotWin sink = TakesCertificate p CannotWin sink ⊎ IsTooLong p CannotWin sink
IsCertified p (GaveUp told) sink = IsUntouched sink

-- a sink failed while it was given a certificate of the verdict
abbrev pub IsCutShort : Problem → Verdict → Device → Type 0
IsCutShort p verdict sink =
    ((bytes : List ℕ) × IsShortCertificateOf p verdict bytes × TakesFront sink.old sink.new bytes) × IsTrue sink.failed

-- a board was answered: a verdict was decided so, the sink of certificates, where there is one, took its certificate, and the
-- sink of answers its text, and the status is told
pub record IsAnsweredBy (is_decided : Verdict → Type 0) (p : Problem) (cert : Option Device) (sink : Device) (status : ℕ) : Type 0 where
  pub verdict : Verdict
  pub decided : is_decided verdict
  pub certified : IfSome cert (IsCertified p verdict)
  pub written : TakesBytes sink.old sink.new (answer_text verdict)
  pub sound : IsTrue sink.failed → ⊥
  pub told : status ≡ status_of verdict

-- a board was answered by the verdict of a search that ran to its end
abbrev pub IsAnswered : Problem → Option Device → Device → ℕ → Type 0
IsAnswered p cert sink status = IsAnsweredBy (IsDecided p) p cert sink status

-- a board was answered by a verdict that the question seeks
abbrev pub IsAnsweredFor : QuestionData → Board → Option Device → Device → ℕ → Type 0
IsAnsweredFor q b cert sink status = IsAnsweredBy (IsVerdictFor q b) (problem_of q b) cert sink status

-- nothing was written, of a certificate or of an answer
abbrev pub NothingIsWritten : Option Device → Device → Type 0
NothingIsWritten cert sink = IfSome cert IsUntouched × IsUntouched sink

-- why a board wasn't answered by a verdict that is decided so, each fault only where those before it have no cause: a growth was
-- refused, and nothing is written; the certificate couldn't be written, and nothing of the answer is; or the answer couldn't be,
-- and its certificate stands
abbrev pub IsUnansweredBy : (Verdict → Type 0) → Problem → Option Device → Device → ProgramFault → Type 0
IsUnansweredBy is_decided p cert sink Memory = NothingIsWritten cert sink
IsUnansweredBy is_decided p cert sink (Write of_certificate) = (verdict : Verdict) × is_decided verdict
    × ((lent : Device) × (cert ≡ Some lent) × IsCutShort p verdict lent) × IsUntouched sink
IsUnansweredBy is_decided p cert sink (Write of_answer) = (verdict : Verdict) × is_decided verdict
    × IfSome cert (IsCertified p verdict) × TakesFront sink.old sink.new (answer_text verdict) × IsTrue sink.failed
IsUnansweredBy is_decided p cert sink other = ⊥

-- why a board wasn't answered by the verdict of a search
abbrev pub IsUnanswered : Problem → Option Device → Device → ProgramFault → Type 0
IsUnanswered p cert sink fault = IsUnansweredBy (IsDecided p) p cert sink fault

-- why a board wasn't answered by such a verdict
abbrev pub IsUnansweredFor : QuestionData → Board → Option Device → Device → ProgramFault → Type 0
IsUnansweredFor q b cert sink fault = IsUnansweredBy (IsVerdictFor q b) (problem_of q b) cert sink fault

module _ {L : Type 0} (hears : L → Report → L → Type 0) where
  -- a board was answered, and a listener heard of the very searches whose verdict was written, to their end
  abbrev pub HearsAnswered : QuestionData → Board → Device → L → L → Type 0
  HearsAnswered q b sink old new = (verdict : Verdict) × HearsVerdict hears q.sought q b verdict old new
      × TakesBytes sink.old sink.new (answer_text verdict)

-- solving was answered: the budget is one, and the source gave the text of a position, which was answered, by one of three
-- verdicts
pub record IsSolved (q : QuestionData) (source : Device) (cert : Option Device) (sink : Device) (status : ℕ) : Type 0 where
  pub budgeted : IsBudget q.method.strategy.budget
  pub start : Board
  pub given : GivesBoard q.game.cells source start
  pub answered : IsAnswered (problem_of q start) cert sink status
  pub three : IsOneOfThree q.game start q.method.strategy.budget answered.verdict

-- why no position was given to be solved, each fault only where those before it have no cause: the budget is none, and nothing
-- is read; or the source has failed, or its text has a fault
abbrev pub IsStartFault : QuestionData → Device → ProgramFault → Type 0
IsStartFault q source Budget = (IsBudget q.method.strategy.budget → ⊥) × Stays source.old source.new
IsStartFault q source (Read of_board) = IsBudget q.method.strategy.budget × IsTrue source.failed
IsStartFault q source (bad_board fault) = IsBudget q.method.strategy.budget × GivesFault q.game.cells source fault
IsStartFault q source other = ⊥

-- a position was given, and wasn't answered
abbrev pub IsGivenUnanswered : QuestionData → Device → Option Device → Device → ProgramFault → Type 0
IsGivenUnanswered q source cert sink fault = IsBudget q.method.strategy.budget
    × ((start : Board) × GivesBoard q.game.cells source start × IsUnanswered (problem_of q start) cert sink fault)

-- why solving was not answered: no position was given, and nothing was written; or one was, and wasn't answered
abbrev pub IsSolveFault : QuestionData → Device → Option Device → Device → ProgramFault → Type 0
IsSolveFault q source cert sink fault =
    (IsStartFault q source fault × NothingIsWritten cert sink) ⊎ IsGivenUnanswered q source cert sink fault
