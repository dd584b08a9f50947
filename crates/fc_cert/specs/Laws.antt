-- What the laws of this crate state.
use Rattle.std.specs.Prelude.{◌≡◌, ℕ, ◌≤◌, ◌↔◌, List, length, IfSome, Result, Ok}
use Rattle.fc_position.specs.Board.{Board}
use Rattle.fc_moves.specs.GameRules.{GameRules, IsGame, IsPositionOf}
use Rattle.fc_answers.specs.declared.answers.Answer.{Answer}
use Rattle.fc_answers.specs.Answer.{IsBacked}
use Rattle.fc_answers.specs.Verdict.{CanBeWritten, HasFewMoves}
use Rattle.fc_cert.specs.declared.certificates.TheConstants.{LONGEST_CERTIFICATE}
use Rattle.fc_cert.specs.declared.claims.Claim.{Claim}
use Rattle.fc_cert.specs.declared.faults.CertFault.{CertFault}
use Rattle.fc_cert.specs.Claim.{IsCertificate, IsTrueOf, IsWrittenAs, Claims, HasWinningMoves}
use Rattle.fc_cert.specs.Content.{Content, IsSpelled, bytes_of}
use Rattle.fc_cert.specs.Reading.{Reads}
use Rattle.fc_cert.specs.declared.certificates.TheConstants.{LONGEST_CERTIFICATE}

-- bytes are read as a content exactly where they are a certificate with it
abbrev pub CertificatesAreRead : Type 0
CertificatesAreRead = (bytes : List ℕ) (c : Content) → Reads bytes (Ok c) ↔ IsSpelled bytes c

-- reading comes to one end: no bytes have two contents, or two faults, or a content and a fault
abbrev pub ReadingComesToOneEnd : Type 0
ReadingComesToOneEnd = (bytes : List ℕ) (a b : Result Content CertFault) → Reads bytes a → Reads bytes b → a ≡ b

-- what bytes that are a certificate of a position and a claim claim is true
abbrev pub CertificatesAreTrue : Type 0
CertificatesAreTrue = (g : GameRules) (b : Board) (bytes : List ℕ) (claimed : Claim) → IsPositionOf g b
    → IsCertificate g b bytes claimed → IsTrueOf g b claimed

-- what is written of a backed answer whose moves win is a certificate of its claim
abbrev pub BackedAnswersAreCertified : Type 0
BackedAnswersAreCertified = (g : GameRules) (b : Board) (answered : Answer) (c : Content) (claimed : Claim)
    → IsGame g → IsPositionOf g b → IsBacked g b answered → HasWinningMoves g b answered.verdict → CanBeWritten answered.verdict
    → IsWrittenAs g answered c → Claims answered.verdict claimed → IsCertificate g b (bytes_of c) claimed

-- the most bytes of a certificate
abbrev pub NumbersAreTold : Type 0
NumbersAreTold = LONGEST_CERTIFICATE ≡ 1073741824

-- what is written of a backed answer of few moves, whose table lists at most fourteen million classes, is no longer than what is read
abbrev pub WrittenCertificatesAreShort : Type 0
WrittenCertificatesAreShort = (g : GameRules) (b : Board) (answered : Answer) (c : Content) → IsBacked g b answered
    → IfSome answered.table (λ table. length table.rows ≤ 14000000) → HasFewMoves answered.verdict → IsWrittenAs g answered c → length (bytes_of c) ≤ LONGEST_CERTIFICATE
