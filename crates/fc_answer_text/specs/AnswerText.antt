-- How an answer, a claim and a line of a batch are printed.
use Rattle.std.specs.Prelude.{ℕ, List, Option, Some, None, ◌++◌, length, codes, decimal}
use Rattle.fc_lists.specs.ListText.{moves_line}
use Rattle.fc_answers.specs.declared.answers.Outcome.{Outcome}
use Rattle.fc_answers.specs.declared.answers.Outcome.TheVariants as outcome
use Rattle.fc_answers.specs.declared.answers.Verdict.{Verdict}
use Rattle.fc_answers.specs.declared.answers.Verdict.TheVariants.{Shortest, Won, CannotWin, GaveUp}
use Rattle.fc_cert.specs.declared.claims.Claim.{Claim}
use Rattle.fc_cert.specs.declared.claims.Claim.TheVariants as claim

-- how many moves a shortest list has
abbrev pub shortest_line : ℕ → List ℕ
shortest_line count = codes "shortest " ++ decimal count ++ codes "\n"

-- how many moves a list has that wins, and how many each such list has at least
abbrev pub won_line : ℕ → ℕ → List ℕ
won_line count floor = codes "won " ++ decimal count ++ codes ", at least " ++ decimal floor ++ codes "\n"

-- that a search gave up, and its budget
abbrev pub gave_up_text : ℕ → List ℕ
gave_up_text budget = codes "gave up " ++ decimal budget ++ codes "\n"

-- what is printed
abbrev pub answer_text : Verdict → List ℕ
answer_text (Shortest moves) = shortest_line (length moves) ++ moves_line moves
answer_text (Won moves floor) = won_line (length moves) floor ++ moves_line moves
answer_text CannotWin = codes "can't be won\n"
answer_text (GaveUp budget) = gave_up_text budget

-- the exit status that goes with it
abbrev pub status_of : Verdict → ℕ
status_of (Shortest moves) = 0
status_of (Won moves floor) = 0
status_of CannotWin = 1
status_of (GaveUp budget) = 2

-- what is printed of an answer without its moves, on one line
abbrev pub outcome_text : Outcome → List ℕ
outcome_text (outcome.Shortest count) = shortest_line count
outcome_text (outcome.Won count floor) = won_line count floor
outcome_text outcome.CannotWin = codes "can't be won\n"
outcome_text (outcome.GaveUp budget) = gave_up_text budget

-- and the exit status that goes with it
abbrev pub outcome_status : Outcome → ℕ
outcome_status (outcome.Shortest count) = 0
outcome_status (outcome.Won count floor) = 0
outcome_status outcome.CannotWin = 1
outcome_status (outcome.GaveUp budget) = 2

-- what is printed of a claim that was accepted
abbrev pub accepted_text : Claim → List ℕ
accepted_text (claim.Shortest n) = codes "accepted: " ++ shortest_line n
accepted_text claim.CannotWin = codes "accepted: " ++ codes "can't be won\n"
accepted_text (claim.Between floor n) = codes "accepted: " ++ won_line n floor

-- a line of a batch: the number of its deal, and what is told of it; `None` where memory was wanted
pub record Line : Type 0 where
  pub deal : ℕ
  pub told : Option Outcome

-- what is told of a deal, or that memory was wanted, and the end of the line
abbrev pub told_text : Option Outcome → List ℕ
told_text (Some outcome) = outcome_text outcome
told_text None = codes "want of memory\n"

-- a line as it is printed: the number of the deal, a blank, and what is told
abbrev pub line_text : Line → List ℕ
line_text line = decimal line.deal ++ codes " " ++ told_text line.told

-- the exit status that goes with what is told: that of the answer, or 4 for want of memory
abbrev pub told_status : Option Outcome → ℕ
told_status (Some outcome) = outcome_status outcome
told_status None = 4
