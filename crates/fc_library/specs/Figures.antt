-- Answers and claims in numbers.
use Rattle.std.specs.Prelude.{Option, Some, None}
use Rattle.fc_answers.specs.declared.answers.Outcome.{Outcome}
use Rattle.fc_answers.specs.declared.answers.Outcome.TheVariants.{Shortest, Won, CannotWin, GaveUp}
use Rattle.fc_cert.specs.declared.claims.Claim.{Claim}
use Rattle.fc_cert.specs.declared.claims.Claim.TheVariants as claim
use Rattle.fc_library.specs.declared.figures.Figures.{Figures}
use Rattle.fc_library.specs.declared.numbers.TheConstants.{KIND_NONE, KIND_SHORTEST, KIND_WON, KIND_CANNOT_WIN, KIND_GAVE_UP}

-- the kind; how many moves the list has; its floor, of a shortest list as many; and of giving up what is told of the positions
abbrev pub figures_of : Option Outcome → Figures
figures_of (Some (Shortest moves)) = record { kind = KIND_SHORTEST; moves = moves; floor = moves; budget = 0 }
figures_of (Some (Won moves floor)) = record { kind = KIND_WON; moves = moves; floor = floor; budget = 0 }
figures_of (Some CannotWin) = record { kind = KIND_CANNOT_WIN; moves = 0; floor = 0; budget = 0 }
figures_of (Some (GaveUp budget)) = record { kind = KIND_GAVE_UP; moves = 0; floor = 0; budget = budget }
figures_of None = record { kind = KIND_NONE; moves = 0; floor = 0; budget = 0 }

-- a claim is told as an answer without its moves
abbrev pub claimed_outcome : Claim → Outcome
claimed_outcome (claim.Shortest moves) = Shortest moves
claimed_outcome (claim.Between floor moves) = Won moves floor
claimed_outcome claim.CannotWin = CannotWin
