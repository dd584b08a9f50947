-- What the laws of this crate state.
use Rattle.std.specs.Prelude.{◌≡◌, ◌≢◌, ℕ, List}
use Rattle.fc_position.specs.Board.{Board}
use Rattle.fc_moves.specs.GameRules.{GameRules, IsPositionOf}
use Rattle.fc_cert.specs.declared.claims.Claim.{Claim}
use Rattle.fc_cert.specs.Claim.{IsCertificate}
use Rattle.fc_checker.specs.declared.faults.CheckFault.{CheckFault}
use Rattle.fc_checker.specs.declared.faults.CheckFault.TheVariants.{Memory}
use Rattle.fc_checker.specs.Check.{IsCheckFault}

-- bytes that are a certificate of the board have no fault but want of memory
abbrev pub CertificatesHaveNoFault : Type 0
CertificatesHaveNoFault = (g : GameRules) (b : Board) (bytes : List ℕ) (claimed : Claim) (fault : CheckFault) → IsPositionOf g b
    → IsCertificate g b bytes claimed → IsCheckFault g b bytes fault → fault ≡ Memory

-- no bytes have two faults but want of memory
abbrev pub FaultsAreOne : Type 0
FaultsAreOne = (g : GameRules) (b : Board) (bytes : List ℕ) (one other : CheckFault) → IsPositionOf g b
    → IsCheckFault g b bytes one → IsCheckFault g b bytes other → one ≢ Memory → other ≢ Memory → one ≡ other

-- no bytes are certificates of two claims
abbrev pub ClaimsAreOne : Type 0
ClaimsAreOne = (g : GameRules) (b : Board) (bytes : List ℕ) (one other : Claim) → IsCertificate g b bytes one
    → IsCertificate g b bytes other → one ≡ other
