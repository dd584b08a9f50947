-- What becomes of the sink that a certificate is written to.
use Rattle.std.specs.Prelude.{◌≡◌, ◌⊎◌, ℕ, Bool, false, List, Option, None, Result, Ok, Err, IsTrue}
use Rattle.fc_io.specs.Moves.{TakesBytes, TakesFront, Stays}
use Rattle.fc_moves.specs.GameRules.{GameRules}
use Rattle.fc_answers.specs.declared.answers.Answer.{Answer}
use Rattle.fc_answers.specs.Answer.{HasGivenUp}
use Rattle.fc_cert.specs.declared.faults.CertFault.{CertFault}
use Rattle.fc_cert.specs.declared.faults.CertFault.TheVariants.{NotCertified, Write}
use Rattle.fc_cert.specs.Claim.{IsWrittenAs}
use Rattle.fc_cert.specs.Content.{Content, bytes_of}

-- what is seen of a sink: the bytes that it holds, if it tells any, and whether it has failed
pub record SinkState : Type 0 where
  pub held : Option (List ℕ)
  pub has_failed : Bool

-- the sink took all these bytes; it had not failed before, and has not
pub record TakesWhole (old new : SinkState) (bytes : List ℕ) : Type 0 where
  pub taken : TakesBytes old.held new.held bytes
  pub was_sound : old.has_failed ≡ false
  pub is_sound : new.has_failed ≡ false

-- the sink has failed, and took a front of the bytes; one that had failed before took none
pub record IsCutShort (old new : SinkState) (bytes : List ℕ) : Type 0 where
  pub front : TakesFront old.held new.held bytes
  pub failed : IsTrue new.has_failed
  pub unmoved : IsTrue old.has_failed → Stays old.held new.held

-- the answer has no certificate: it has no table, or a search gave up
abbrev pub IsUncertified : Answer → Type 0
IsUncertified answered = (answered.table ≡ None) ⊎ HasGivenUp answered.verdict

-- the bytes of the content that the answer is written as were written, or the sink failed on the way; or the answer has
-- no certificate, and the sink stays as it was
abbrev pub WritesAnswer : GameRules → Answer → SinkState → SinkState → Result (Unit {0}) CertFault → Type 0
WritesAnswer g answered old new (Ok done) = (c : Content) × IsWrittenAs g answered c × TakesWhole old new (bytes_of c)
WritesAnswer g answered old new (Err Write) = (c : Content) × IsWrittenAs g answered c × IsCutShort old new (bytes_of c)
WritesAnswer g answered old new (Err NotCertified) = IsUncertified answered × (new ≡ old)
WritesAnswer g answered old new (Err other) = ⊥
