-- The lists of moves that verdicts tell.
use Rattle.std.specs.Prelude.{List, Option, Some, None}
use Rattle.fc_moves.specs.declared.steps.Move.{Move}
use Rattle.fc_answers.specs.declared.answers.Verdict.{Verdict}
use Rattle.fc_answers.specs.declared.answers.Verdict.TheVariants.{Shortest, Won, CannotWin, GaveUp}

-- the list that a verdict tells, if it tells one
abbrev pub list_of : Verdict → Option (List Move)
list_of (Shortest moves) = Some moves
list_of (Won moves floor) = Some moves
list_of CannotWin = None
list_of (GaveUp told) = None
