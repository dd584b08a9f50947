-- What the laws of this crate state.
use Rattle.std.specs.Prelude.{◌≡◌, ◌≤◌}
use Rattle.fc_answers.specs.declared.answers.Verdict.{Verdict}
use Rattle.fc_search.specs.Problem.{Problem}
use Rattle.fc_board_runs.specs.Devices.{Device}
use Rattle.fc_runs.specs.declared.certifying.TheConstants.{FEW_CLASSES}
use Rattle.fc_runs.specs.declared.deal_batches.TheConstants.{MOST_DEALS}
use Rattle.fc_runs.specs.Solving.{IsTooLong}

-- the most deals of a batch whose searches take turns, and how many classes a certificate lists that is never too long
abbrev pub NumbersAreTold : Type 0
NumbersAreTold = (MOST_DEALS ≡ 32) × (FEW_CLASSES ≡ 14000000)

-- within a budget of no more classes than that, no certificate is too long
abbrev pub FewClassesAreWritten : Type 0
FewClassesAreWritten = (p : Problem) (verdict : Verdict) (sink : Device) → p.method.strategy.budget ≤ FEW_CLASSES → IsTooLong p verdict sink → ⊥
