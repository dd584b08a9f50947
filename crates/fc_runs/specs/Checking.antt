-- What checking a certificate promises, over any sources and any sink.
use Rattle.std.specs.Prelude.{◌≡◌, ◌≢◌, ℕ, ◌+◌, List, IsTrue}
use Rattle.fc_io.specs.Moves.{TakesBytes, TakesFront, Stays, TellsAtLeast}
use Rattle.fc_position.specs.Board.{Board}
use Rattle.fc_moves.specs.GameRules.{GameRules}
use Rattle.fc_cert.specs.declared.certificates.TheConstants.{LONGEST_CERTIFICATE}
use Rattle.fc_cert.specs.declared.claims.Claim.{Claim}
use Rattle.fc_cert.specs.Claim.{IsCertificate, IsTrueOf}
use Rattle.fc_checker.specs.Check.{IsCheckFault}
use Rattle.fc_board_runs.specs.declared.faults.ProgramFault.{ProgramFault}
use Rattle.fc_board_runs.specs.declared.faults.ProgramFault.TheVariants.{Cert, TooLong, Read, Write, Memory, Board as bad_board}
use Rattle.fc_board_runs.specs.Devices.{Device, GivesBoard, GivesFault, GivesWhole, IsUntouched}
use Rattle.fc_answer_text.specs.AnswerText.{accepted_text}
use Rattle.fc_checker.specs.declared.faults.CheckFault.TheVariants.{Memory as refused}
use Rattle.fc_board_runs.specs.declared.faults.Input.TheVariants.{Board as of_board, Cert as of_certificate}
use Rattle.fc_board_runs.specs.declared.faults.Output.TheVariants.{Answer as of_answer}

-- a source gave a certificate of a position and of a claim, which is true
pub record IsAccepted (g : GameRules) (b : Board) (cert : Device) (claim : Claim) : Type 0 where
  pub bytes : List ℕ
  pub read : GivesWhole cert bytes
  pub proves : IsCertificate g b bytes claim
  pub holds : IsTrueOf g b claim

-- a certificate of a position was accepted, and the sink took the text of its claim
pub record IsCheckedOf (g : GameRules) (b : Board) (cert sink : Device) (status : ℕ) : Type 0 where
  pub claim : Claim
  pub accepted : IsAccepted g b cert claim
  pub written : TakesBytes sink.old sink.new (accepted_text claim)
  pub sound : IsTrue sink.failed → ⊥
  pub told : status ≡ 0

-- and a source gave the position
pub record IsChecked (g : GameRules) (board cert sink : Device) (status : ℕ) : Type 0 where
  pub start : Board
  pub given : GivesBoard g.cells board start
  pub checked : IsCheckedOf g start cert sink status

-- why a certificate of a position was not accepted, or that not told, each fault only where those before it have no cause; before
-- the last one nothing is written
abbrev pub IsRefusalOf : GameRules → Board → Device → Device → ProgramFault → Type 0
IsRefusalOf g b cert sink (Read of_certificate) = IsUntouched sink × IsTrue cert.failed
IsRefusalOf g b cert sink (TooLong of_certificate) =
    IsUntouched sink × TellsAtLeast cert.old (LONGEST_CERTIFICATE + 1) × (IsTrue cert.failed → ⊥)
IsRefusalOf g b cert sink (Cert fault) = (fault ≢ refused) × ((bytes : List ℕ) × GivesWhole cert bytes × IsCheckFault g b bytes fault) × IsUntouched sink
IsRefusalOf g b cert sink Memory = IsUntouched sink × TellsAtLeast cert.old 1 × (IsTrue cert.failed → ⊥)
IsRefusalOf g b cert sink (Write of_answer) =
    ((claim : Claim) × IsAccepted g b cert claim × TakesFront sink.old sink.new (accepted_text claim)) × IsTrue sink.failed
IsRefusalOf g b cert sink other = ⊥

-- the same where a source is to give the position, which comes before
abbrev pub IsRefusal : GameRules → Device → Device → Device → ProgramFault → Type 0
IsRefusal g board cert sink (Read of_board) = IsTrue board.failed × Stays cert.old cert.new × IsUntouched sink
IsRefusal g board cert sink (bad_board fault) = GivesFault g.cells board fault × Stays cert.old cert.new × IsUntouched sink
IsRefusal g board cert sink fault = (b : Board) × GivesBoard g.cells board b × IsRefusalOf g b cert sink fault
