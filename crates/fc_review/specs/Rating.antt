-- How good a list is that wins.
use Rattle.std.specs.Prelude.{◌≡◌, ◌⊎◌, ◌<◌, ◌≤◌, ℕ, List, length, Option, Some, IfSome, MatchOption}
use Rattle.fc_position.specs.Board.{Board}
use Rattle.fc_moves.specs.declared.steps.Move.{Move}
use Rattle.fc_answers.specs.declared.answers.Verdict.{Verdict}
use Rattle.fc_answers.specs.declared.answers.Verdict.TheVariants.{Shortest, Won, GaveUp}
use Rattle.fc_methods.specs.Method.{QuestionData}
use Rattle.fc_search.specs.Problem.{problem_of}
use Rattle.fc_best.specs.Best.{IsBest, IsBestVerdict}
use Rattle.fc_best.specs.Watch.{floor_told}
use Rattle.fc_board_runs.specs.declared.faults.Output.TheVariants.{Cert as of_certificate}
use Rattle.fc_board_runs.specs.declared.faults.ProgramFault.{ProgramFault}
use Rattle.fc_board_runs.specs.declared.faults.ProgramFault.TheVariants.{Memory, Write}
use Rattle.fc_board_runs.specs.Devices.{Device, IsUntouched}
use Rattle.fc_runs.specs.Solving.{IsCertified, IsCutShort}
use Rattle.fc_review.specs.declared.ratings.Rating.{Rating}

-- what a floor says of a list: that it is a shortest one, where it has no more moves than the floor; else that none is shorter than
-- the floor
abbrev pub SaysAbove : List Move → ℕ → Verdict → Type 0
SaysAbove moves floor verdict = ((length moves ≤ floor) × (verdict ≡ Shortest moves)) ⊎ ((floor < length moves) × (verdict ≡ Won moves floor))

-- what is told of the list is what the floor of the best verdict says of that very list, and it is right
abbrev pub IsOwnVerdict : QuestionData → Board → List Move → Verdict → Verdict → Type 0
IsOwnVerdict q b moves best own = ((floor : ℕ) × (floor_told best ≡ Some floor) × SaysAbove moves floor own) × IsBest q.game b q.method.strategy.budget own

-- a verdict gave up
abbrev pub IsGivingUp : Verdict → Type 0
IsGivingUp verdict = (told : ℕ) × (verdict ≡ GaveUp told)

-- the best answer of the board, and what its floor says of the list, unless the searches gave up; a sink of certificates, where there
-- is one, took that of the list, and of giving up nothing
pub record IsRating (q : QuestionData) (b : Board) (moves : List Move) (cert : Option Device) (rating : Rating) : Type 0 where
  pub best : IsBestVerdict q b rating.best
  pub own : MatchOption rating.own (IsGivingUp rating.best) (IsOwnVerdict q b moves rating.best)
  pub certified : IfSome cert (λ sink. MatchOption rating.own (IsUntouched sink) (λ own. IsCertified (problem_of q b) own sink))

-- why a list isn't rated: a growth was refused, and nothing is written; or the certificate of what the floor of a best verdict says of
-- it couldn't be written
abbrev pub IsUnrated : QuestionData → Board → List Move → Option Device → ProgramFault → Type 0
IsUnrated q b moves cert Memory = IfSome cert IsUntouched
IsUnrated q b moves cert (Write of_certificate) = (best own : Verdict) × IsBestVerdict q b best × IsOwnVerdict q b moves best own
    × ((lent : Device) × (cert ≡ Some lent) × IsCutShort (problem_of q b) own lent)
IsUnrated q b moves cert other = ⊥
