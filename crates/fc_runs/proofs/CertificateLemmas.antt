-- What is written of an answer of a search certifies its verdict.
use Rattle.std.proofs.Common.{inl, inr, ◌≡◌, ◌∙◌, ◌≤◌, ℕ, [], List, Option, Some, None, length, refl, sym, ap, subst, arith, Ok, Err, IsTrue, false}
use Rattle.fc_io.specs.Moves.{TakesBytes, TakesFront}
use Rattle.fc_moves.specs.declared.steps.Move.{Move}
use Rattle.fc_moves.specs.GameRules.{GameRules, IsGame, IsPositionOf}
use Rattle.fc_bound.specs.declared.kinds.BoundKind.{BoundKind}
use Rattle.fc_answers.specs.declared.answers.Answer.{Answer}
use Rattle.fc_answers.specs.declared.answers.Verdict.{Verdict}
use Rattle.fc_answers.specs.declared.answers.Verdict.TheVariants.{Shortest, Won, CannotWin, GaveUp}
use Rattle.fc_answers.specs.Table.{Listing}
use Rattle.fc_search.specs.Problem.{Problem}
use Rattle.fc_best.specs.Answering.{IsCertifiable}
use Rattle.fc_runs.specs.inner.Certificates.{IsLong}
use Rattle.fc_cert.specs.declared.claims.Claim.{Claim}
use Rattle.fc_cert.specs.declared.claims.Claim.TheVariants as claim
use Rattle.fc_cert.specs.declared.certificates.TheConstants.{LONGEST_CERTIFICATE}
use Rattle.fc_cert.specs.declared.contents.Kind.{Kind}
use Rattle.fc_cert.specs.declared.contents.Kind.TheVariants as kind
use Rattle.fc_cert.specs.Claim.{IsWrittenAs, IsWrittenWith, written_form, written_head}
use Rattle.fc_cert.specs.Content.{Content, bytes_of}
use Rattle.fc_cert.proofs.CertifiedLemmas.{backed_certified, backed_spelled}
use Rattle.fc_cert.specs.declared.faults.CertFault.TheVariants.{Write}
use Rattle.fc_cert.specs.Writing.{SinkState, WritesAnswer}
use Rattle.fc_board_runs.specs.Devices.{Device, IsUntouched}
use Rattle.fc_board_runs.specs.declared.faults.Output.TheVariants.{Answer as of_answer, Cert as of_certificate}
use Rattle.fc_board_runs.specs.declared.faults.ProgramFault.TheVariants.{Write as unwritten}
use Rattle.fc_answer_text.specs.AnswerText.{answer_text, status_of}
use Rattle.fc_runs.specs.Solving.{IsAnsweredBy, IsCertificateOf, IsCertified, IsCutShort, IsTooLong, IsTooLongFor, IsUnansweredBy, TakesCertificate}
use Rattle.fc_runs.specs.declared.certifying.TheConstants.{FEW_CLASSES}

-- the form is the one of the bound that was searched by
form_by : (kind bound : BoundKind) (c : Content) → c.head.form ≡ written_form bound c.head.kind → bound ≡ kind
    → c.head.form ≡ written_form kind c.head.kind
form_by kind bound c form same = form ∙ ap (λ x. written_form x c.head.kind) same

pub certifies : (p : Problem) (verdict : Verdict) (table : Listing) (c : Content) → IsGame p.game → IsPositionOf p.game p.start
    → IsCertifiable p (record { verdict = verdict; table = Some table }) → IsWrittenWith p.game table verdict c → IsCertificateOf p verdict (bytes_of c)
certifies p (Shortest moves) table c game position answers same =
    let answered : Answer = record { verdict = Shortest moves; table = Some table } in
    let said : Claim = claim.Shortest (length moves) in
    record {
      claim = said;
      claimed = refl;
      proves = backed_certified p.game p.start answered c said game position answers.backed answers.wins answers.written same refl;
      content = c;
      spelled = backed_spelled p.game p.start answered c said game position answers.backed answers.wins answers.written same refl;
      form = form_by p.method.bound table.bound c (ap (λ x. x.head.form) same ∙ ap (λ x. written_form table.bound x.head.kind) (sym same)) answers.searched.1;
      ruled = ap (λ x. x.head.rule) same ∙ answers.searched.0;
      bound = ap (λ x. x.head.bound) same ∙ answers.searched.1;
      listed = ap (λ x. x.moves) same;
    }
certifies p (Won moves floor) table c game position answers same =
    let answered : Answer = record { verdict = Won moves floor; table = Some table } in
    let said : Claim = claim.Between floor (length moves) in
    record {
      claim = said;
      claimed = refl;
      proves = backed_certified p.game p.start answered c said game position answers.backed answers.wins answers.written same refl;
      content = c;
      spelled = backed_spelled p.game p.start answered c said game position answers.backed answers.wins answers.written same refl;
      form = form_by p.method.bound table.bound c (ap (λ x. x.head.form) same ∙ ap (λ x. written_form table.bound x.head.kind) (sym same)) answers.searched.1;
      ruled = ap (λ x. x.head.rule) same ∙ answers.searched.0;
      bound = ap (λ x. x.head.bound) same ∙ answers.searched.1;
      listed = ap (λ x. x.moves) same;
    }
certifies p CannotWin table c game position answers same =
    let answered : Answer = record { verdict = CannotWin; table = Some table } in
    record {
      claim = claim.CannotWin;
      claimed = refl;
      proves = backed_certified p.game p.start answered c claim.CannotWin game position answers.backed tt answers.written same refl;
      content = c;
      spelled = backed_spelled p.game p.start answered c claim.CannotWin game position answers.backed tt answers.written same refl;
      form = form_by p.method.bound table.bound c (ap (λ x. x.head.form) same ∙ ap (λ x. written_form table.bound x.head.kind) (sym same)) answers.searched.1;
      ruled = ap (λ x. x.head.rule) same ∙ answers.searched.0;
      bound = ap (λ x. x.head.bound) same ∙ answers.searched.1;
      listed = ap (λ x. x.moves) same;
    }
certifies p (GaveUp told) table c game position answers same = absurd same

-- a sink that a certificate is written to, as a device
abbrev pub device_of : SinkState → SinkState → Device
device_of old new = record { old = old.held; new = new.held; failed = new.has_failed }

-- what has not failed hasn't
sound : (new : SinkState) → new.has_failed ≡ false → IsTrue new.has_failed → ⊥
sound new is failed = absurd (cc (is, failed))

-- a sink took a certificate of a verdict whole: it took what there is of its certificates
certified_so : (p : Problem) (verdict : Verdict) (table : Listing) (c : Content) (sink : Device) → IsWrittenWith p.game table verdict c
    → TakesCertificate p verdict sink → IsCertified p verdict sink
certified_so p (Shortest moves) table c sink same taken = inl taken
certified_so p (Won moves floor) table c sink same taken = inl taken
certified_so p CannotWin table c sink same taken = inl taken
certified_so p (GaveUp told) table c sink same taken = absurd same

-- what is written of an answer is no more than is read
abbrev pub IsShortOf : GameRules → Answer → Type 0
IsShortOf g answered = (c : Content) → IsWrittenAs g answered c → length (bytes_of c) ≤ LONGEST_CERTIFICATE

-- the sink took the certificate of an answer, whole
whole_of : (p : Problem) (verdict : Verdict) (table : Option Listing) (old new : SinkState) (done : Unit {0}) → IsGame p.game
    → IsPositionOf p.game p.start → IsCertifiable p (record { verdict = verdict; table = table })
    → IsShortOf p.game (record { verdict = verdict; table = table })
    → WritesAnswer p.game (record { verdict = verdict; table = table }) old new (Ok done)
    → TakesCertificate p verdict (device_of old new) × IsCertified p verdict (device_of old new)
whole_of p verdict (Some table) old new done game position answers short (c, same, whole) =
    let taken : TakesCertificate p verdict (device_of old new) = (
      (bytes_of c, (certifies p verdict table c game position answers same, short c same), whole.taken),
      sound new whole.is_sound,
    ) in
    (taken, certified_so p verdict table c (device_of old new) same taken)
whole_of p verdict None old new done game position answers short (c, same, whole) = absurd same

pub written_whole : (p : Problem) (answered : Answer) (old new : SinkState) (done : Unit {0}) → IsGame p.game
    → IsPositionOf p.game p.start → IsCertifiable p answered → IsShortOf p.game answered → WritesAnswer p.game answered old new (Ok done)
    → TakesCertificate p answered.verdict (device_of old new) × IsCertified p answered.verdict (device_of old new)
written_whole p answered old new done game position answers short writes =
    whole_of p answered.verdict answered.table old new done game position answers short writes

-- the sink failed while it was given the certificate of an answer
short_of : (p : Problem) (verdict : Verdict) (table : Option Listing) (old new : SinkState) → IsGame p.game
    → IsPositionOf p.game p.start → IsCertifiable p (record { verdict = verdict; table = table })
    → IsShortOf p.game (record { verdict = verdict; table = table })
    → WritesAnswer p.game (record { verdict = verdict; table = table }) old new (Err Write)
    → IsCutShort p verdict (device_of old new)
short_of p verdict (Some table) old new game position answers few (c, same, short) = (
  (bytes_of c, (certifies p verdict table c game position answers same, few c same), short.front),
  short.failed,
)
short_of p verdict None old new game position answers few (c, same, short) = absurd same

pub written_short : (p : Problem) (answered : Answer) (old new : SinkState) → IsGame p.game
    → IsPositionOf p.game p.start → IsCertifiable p answered → IsShortOf p.game answered → WritesAnswer p.game answered old new (Err Write)
    → IsCutShort p answered.verdict (device_of old new)
written_short p answered old new game position answers few writes =
    short_of p answered.verdict answered.table old new game position answers few writes

-- the content that is written of an answer with a table
abbrev content_of : Problem → Listing → Kind → ℕ → List Move → Content
content_of p table claimed floor moves = record { head = written_head p.game table claimed floor; moves = moves; rows = table.rows }

-- the content that an answer is written as whose certificate is longer than what is read
far_of : (p : Problem) (verdict : Verdict) (table : Option Listing) → IsCertifiable p (record { verdict = verdict; table = table })
    → IsLong (record { verdict = verdict; table = table }) → IsTooLongFor p (record { verdict = verdict; table = table })
far_of p verdict None answers is = absurd (is.certified (inl refl))
far_of p (Shortest moves) (Some table) answers is =
    let c : Content = content_of p table kind.Shortest 0 moves in
    record { content = c; written = refl; many = is.many; within = answers.searched.2; long = is.long p.game c refl }
far_of p (Won moves floor) (Some table) answers is =
    let c : Content = content_of p table kind.Between floor moves in
    record { content = c; written = refl; many = is.many; within = answers.searched.2; long = is.long p.game c refl }
far_of p CannotWin (Some table) answers is =
    let c : Content = content_of p table kind.CannotWin 0 [] in
    record { content = c; written = refl; many = is.many; within = answers.searched.2; long = is.long p.game c refl }
far_of p (GaveUp told) (Some table) answers is = absurd (is.certified (inr tt))

pub too_long : (p : Problem) (answered : Answer) → IsCertifiable p answered → IsLong answered → IsTooLongFor p answered
too_long p answered answers is = far_of p answered.verdict answered.table answers is

-- nothing is written of an answer whose certificate is too long
long_of : (p : Problem) (verdict : Verdict) (table : Option Listing) (sink : Device) → IsGame p.game → IsPositionOf p.game p.start
    → IsCertifiable p (record { verdict = verdict; table = table }) → IsTooLongFor p (record { verdict = verdict; table = table })
    → IsUntouched sink → IsCertified p verdict sink
long_of p verdict None sink game position answers far untouched = absurd far.written
long_of p (Shortest moves) (Some table) sink game position answers far untouched = inr (record {
  answered = record { verdict = Shortest moves; table = Some table };
  of_verdict = refl;
  certifiable = answers;
  too_long = far;
  certificate = certifies p (Shortest moves) table far.content game position answers far.written;
  untouched = untouched;
})
long_of p (Won moves floor) (Some table) sink game position answers far untouched = inr (record {
  answered = record { verdict = Won moves floor; table = Some table };
  of_verdict = refl;
  certifiable = answers;
  too_long = far;
  certificate = certifies p (Won moves floor) table far.content game position answers far.written;
  untouched = untouched;
})
long_of p CannotWin (Some table) sink game position answers far untouched = inr (record {
  answered = record { verdict = CannotWin; table = Some table };
  of_verdict = refl;
  certifiable = answers;
  too_long = far;
  certificate = certifies p CannotWin table far.content game position answers far.written;
  untouched = untouched;
})
long_of p (GaveUp told) (Some table) sink game position answers far untouched = absurd far.written

pub unwritten_long : (p : Problem) (answered : Answer) (sink : Device) → IsGame p.game → IsPositionOf p.game p.start
    → IsCertifiable p answered → IsLong answered → IsUntouched sink → IsCertified p answered.verdict sink
unwritten_long p answered sink game position answers is untouched =
    long_of p answered.verdict answered.table sink game position answers (too_long p answered answers is) untouched

-- within a budget of few classes no certificate is too long
pub few_written : (p : Problem) (verdict : Verdict) (sink : Device) → p.method.strategy.budget ≤ FEW_CLASSES → IsTooLong p verdict sink → ⊥
few_written p verdict sink few is =
    let many = is.too_long.many in
    let within = is.too_long.within in
    omega (arith, few, many, within)

module _ (is_decided : Verdict → Type 0) where
  -- a certificate that is cut short leaves the board unanswered
  pub uncertified : (p : Problem) (answered : Answer) (cert sink : Device) → is_decided answered.verdict
      → IsCutShort p answered.verdict cert → sink.new ≡ sink.old
      → IsUnansweredBy is_decided p (Some cert) sink (unwritten of_certificate)
  uncertified p answered cert sink decided cut same = (answered.verdict, decided, (cert, refl, cut), same)

  -- an answer whose text was written after its certificate
  pub told_whole : (p : Problem) (answered : Answer) (cert sink : Device) (text : List ℕ) (status : ℕ)
      → is_decided answered.verdict → IsCertified p answered.verdict cert
      → text ≡ answer_text answered.verdict → TakesBytes sink.old sink.new text → (IsTrue sink.failed → ⊥)
      → status ≡ status_of answered.verdict → IsAnsweredBy is_decided p (Some cert) sink status
  told_whole p answered cert sink text status is certified same taken sound told = record {
    verdict = answered.verdict;
    decided = is;
    certified = certified;
    written = subst (TakesBytes sink.old sink.new) same taken;
    sound = sound;
    told = told;
  }

  -- and one whose text was cut short
  pub told_short : (p : Problem) (answered : Answer) (cert sink : Device) (text : List ℕ)
      → is_decided answered.verdict → IsCertified p answered.verdict cert
      → text ≡ answer_text answered.verdict → TakesFront sink.old sink.new text → IsTrue sink.failed
      → IsUnansweredBy is_decided p (Some cert) sink (unwritten of_answer)
  told_short p answered cert sink text is certified same front failed = (
    answered.verdict,
    is,
    certified,
    subst (TakesFront sink.old sink.new) same front,
    failed,
  )
