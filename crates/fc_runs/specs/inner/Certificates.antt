-- Certificates that are longer than what is read.
use Rattle.std.specs.Prelude.{◌<◌, length, IfSome}
use Rattle.fc_moves.specs.GameRules.{GameRules}
use Rattle.fc_answers.specs.declared.answers.Answer.{Answer}
use Rattle.fc_cert.specs.declared.certificates.TheConstants.{LONGEST_CERTIFICATE}
use Rattle.fc_cert.specs.Claim.{IsWrittenAs}
use Rattle.fc_cert.specs.Content.{Content, bytes_of}
use Rattle.fc_cert.specs.Writing.{IsUncertified}
use Rattle.fc_runs.specs.declared.certifying.TheConstants.{FEW_CLASSES}

-- the answer has a certificate, of a table of many classes, which is longer than what is read
pub record IsLong (answer : Answer) : Type 0 where
  pub certified : IsUncertified answer → ⊥
  pub many : IfSome answer.table (λ table. FEW_CLASSES < length table.rows)
  pub long : (g : GameRules) (c : Content) → IsWrittenAs g answer c → LONGEST_CERTIFICATE < length (bytes_of c)
