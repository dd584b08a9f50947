-- What is found of a list, once it is told or isn't.
use Rattle.std.proofs.Common.{◌≡◌, inr, subst, ℕ, Option, Result, Ok, Err, IfOk, List}
use Rattle.std.specs.Prelude.{IfErr}
use Rattle.fc_position.specs.Board.{Board}
use Rattle.fc_moves.specs.declared.steps.Move.{Move}
use Rattle.fc_moves.specs.GameRules.{GameRules}
use Rattle.fc_methods.specs.Method.{QuestionData}
use Rattle.fc_board_runs.specs.declared.faults.ProgramFault.{ProgramFault}
use Rattle.fc_board_runs.specs.Devices.{Device}
use Rattle.fc_review.specs.Finding.{IsFinding, IsReviewed, IsFindingTold, IsUnreviewed, IsFindingUntold}
use Rattle.fc_review.specs.declared.findings.Finding.{Finding}

-- what is told was found
pub reviewed : (q : QuestionData) (g : GameRules) (b : Board) (moves : List Move) (cert : Option Device) (sink : Device) (finding : Finding)
    (r : Result ℕ ProgramFault) → g ≡ q.game → IsFinding q b moves cert finding → IfOk r (IsFindingTold g b moves finding sink)
    → IfOk r (IsReviewed q b moves cert sink)
reviewed q g b moves cert sink finding (Ok status) same found told =
    (finding, found, subst (λ game. IsFindingTold game b moves finding sink status) same told)
reviewed q g b moves cert sink finding (Err fault) same found told = told

-- and so was what isn't told
pub unreviewed : (q : QuestionData) (g : GameRules) (b : Board) (moves : List Move) (cert : Option Device) (sink : Device) (finding : Finding)
    (r : Result ℕ ProgramFault) → g ≡ q.game → IsFinding q b moves cert finding → IfErr r (IsFindingUntold g b moves finding sink)
    → IfErr r (IsUnreviewed q b moves cert sink)
unreviewed q g b moves cert sink finding (Ok status) same found untold = untold
unreviewed q g b moves cert sink finding (Err fault) same found untold =
    inr (finding, found, subst (λ game. IsFindingUntold game b moves finding sink fault) same untold)
