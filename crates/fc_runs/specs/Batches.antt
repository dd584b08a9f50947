-- What running several deals in turns promises, over any sink.
use Rattle.std.specs.Prelude.{◌≡◌, ◌⊎◌, ℕ, ◌+◌, ◌<◌, ◌≤◌, List, [], ◌∷◌, max, length, slice_get, Option, Some, None, IfSome, IsTrue}
use Rattle.std.specs.List.{flat_map}
use Rattle.fc_io.specs.Moves.{TakesBytes, TakesFront}
use Rattle.fc_deal.specs.Deal.{IsDealNumber, dealt_board}
use Rattle.fc_answers.specs.declared.answers.Outcome.{Outcome}
use Rattle.fc_answers.specs.declared.answers.Verdict.{Verdict}
use Rattle.fc_answers.specs.Verdict.{outcome_of}
use Rattle.fc_best_first.specs.Limits.{IsBudget}
use Rattle.fc_methods.specs.Method.{QuestionData}
use Rattle.fc_search.specs.Problem.{problem_of}
use Rattle.fc_best_first.specs.Store.{Store}
use Rattle.fc_best_first.specs.declared.turns.Status.{Status}
use Rattle.fc_best_first.specs.declared.turns.Status.TheVariants.{Running}
use Rattle.fc_search.specs.Search.{HasRun}
use Rattle.fc_board_runs.specs.declared.faults.ProgramFault.{ProgramFault}
use Rattle.fc_board_runs.specs.declared.faults.ProgramFault.TheVariants.{Number, Range, Budget, Write, Memory}
use Rattle.fc_board_runs.specs.Devices.{Device, IsUntouched}
use Rattle.fc_runs.specs.declared.deal_batches.TheConstants.{MOST_DEALS}
use Rattle.fc_answer_text.specs.AnswerText.{Line, told_status, line_text}
use Rattle.fc_best.specs.Answering.{IsDecided}
use Rattle.fc_best.specs.Best.{IsBestVerdict}
use Rattle.fc_methods.specs.declared.methods.Sought.{Sought}
use Rattle.fc_methods.specs.declared.methods.Sought.TheVariants.{ByMethod, Best}
use Rattle.fc_board_runs.specs.declared.faults.Output.TheVariants.{Answer as of_answer}

-- the greatest status of some lines
abbrev pub greatest_status : List Line → ℕ
greatest_status [] = 0
greatest_status (line ∷ lines) = max (told_status line.told) (greatest_status lines)

-- an answer without moves is told of a deal: that of a verdict that is right for its board, of a search by the home rule,
-- the weight and the kind of bound that ran to its end with the budget
pub record IsToldOf (q : QuestionData) (deal : ℕ) (told : Outcome) : Type 0 where
  pub verdict : Verdict
  pub decided : IsDecided (problem_of q (dealt_board deal)) verdict
  pub answer : told ≡ outcome_of verdict

-- memory was wanted for a deal: its search was stopped, or ended and has no list of its moves
abbrev pub IsWanting : QuestionData → ℕ → Type 0
IsWanting q deal = (last : Store (List ℕ)) × (status : Status (List ℕ))
    × HasRun (problem_of q (dealt_board deal)) last status × (status ≡ Running → ⊥)

-- what is told of a deal is right: its answer, or that memory was wanted
abbrev pub IsRightOf : QuestionData → ℕ → Option Outcome → Type 0
IsRightOf q deal (Some told) = IsToldOf q deal told
IsRightOf q deal None = IsWanting q deal

-- lines that are right so, one a deal, rising from this one
pub record AreLines (is_right : ℕ → Option Outcome → Type 0) (from : ℕ) (lines : List Line) : Type 0 where
  pub rising : (i : ℕ) (line : Line) → slice_get lines i ≡ Some line → line.deal ≡ from + i
  pub right : (i : ℕ) (line : Line) → slice_get lines i ≡ Some line → is_right line.deal line.told

-- the deals from the one number to the other are at least one and at most 32
pub record IsRange (from to : ℕ) : Type 0 where
  pub rising : from ≤ to
  pub few : to < from + MOST_DEALS

-- a batch that can be asked for: both numbers are of deals, and the deals are few enough
pub record AreDeals (from to : ℕ) : Type 0 where
  pub first : IsDealNumber from
  pub last : IsDealNumber to
  pub range : IsRange from to

-- so many deals were told: the sink took a line for each, which is right so, and the status is the greatest of theirs
pub record AreTold (is_right : ℕ → Option Outcome → Type 0) (from count : ℕ) (sink : Device) (status : ℕ) : Type 0 where
  pub lines : List Line
  pub right : AreLines is_right from lines
  pub whole : length lines ≡ count
  pub written : TakesBytes sink.old sink.new (flat_map line_text lines)
  pub sound : IsTrue sink.failed → ⊥
  pub greatest : status ≡ greatest_status lines

-- a batch that can be asked for, of so many deals
pub record IsAsked (from to count : ℕ) : Type 0 where
  pub deals : AreDeals from to
  pub whole : from + count ≡ to + 1

-- an answer without moves is told of a deal: that of a best verdict for its board
pub record IsBestTold (q : QuestionData) (deal : ℕ) (told : Outcome) : Type 0 where
  pub verdict : Verdict
  pub best : IsBestVerdict q (dealt_board deal) verdict
  pub answer : told ≡ outcome_of verdict

-- what a line tells of a deal is right: its best answer; of a deal for which memory was wanted nothing is promised
abbrev pub IsBestLine : QuestionData → ℕ → Option Outcome → Type 0
IsBestLine q deal told = IfSome told (IsBestTold q deal)

-- what a line tells of a deal is right, by what is sought
abbrev pub IsLineOf : Sought → QuestionData → ℕ → Option Outcome → Type 0
IsLineOf ByMethod = IsRightOf
IsLineOf Best = IsBestLine

-- a batch was told, of which this is sought: it can be asked for, and each of the deals was told
pub record IsBatchedBy (sought : Sought) (q : QuestionData) (from to : ℕ) (sink : Device) (status : ℕ) : Type 0 where
  pub count : ℕ
  pub asked : IsAsked from to count
  pub told : AreTold (IsLineOf sought q) from count sink status

-- a batch of searches by the method was told, and its budget is one of a single search
pub record IsBatched (q : QuestionData) (from to : ℕ) (sink : Device) (status : ℕ) : Type 0 where
  pub budgeted : IsBudget q.method.strategy.budget
  pub batched : IsBatchedBy ByMethod q from to sink status

-- the sink failed while it was given the lines of at most so many deals, which are right so
pub record AreCutShort (is_right : ℕ → Option Outcome → Type 0) (from count : ℕ) (sink : Device) : Type 0 where
  pub lines : List Line
  pub right : AreLines is_right from lines
  pub some : length lines ≤ count
  pub front : TakesFront sink.old sink.new (flat_map line_text lines)
  pub failed : IsTrue sink.failed

-- why deals can't be asked for, each fault only where those before it have no cause: a number, the first one first, is of no
-- deal; the deals are none or too many
abbrev pub IsUnasked : ℕ → ℕ → ProgramFault → Type 0
IsUnasked from to (Number told) =
    ((IsDealNumber from → ⊥) × (told ≡ from)) ⊎ (IsDealNumber from × (IsDealNumber to → ⊥) × (told ≡ to))
IsUnasked from to Range = IsDealNumber from × IsDealNumber to × (IsRange from to → ⊥)
IsUnasked from to other = ⊥

-- why no batch was told, or not all of it: the deals can't be asked for, or they can and a growth was refused before the first
-- turn of a search by the method, and nothing is written; or the sink failed
abbrev pub IsBatchFaultBy : Sought → QuestionData → ℕ → ℕ → Device → ProgramFault → Type 0
IsBatchFaultBy ByMethod q from to sink Memory = AreDeals from to × IsUntouched sink
IsBatchFaultBy sought q from to sink (Write of_answer) = (count : ℕ) × IsAsked from to count × AreCutShort (IsLineOf sought q) from count sink
IsBatchFaultBy sought q from to sink fault = IsUnasked from to fault × IsUntouched sink

-- the same of searches by the method, where the deals can be asked for and the budget is none, and what comes after the deals only
-- where it is one
abbrev pub IsBatchFault : QuestionData → ℕ → ℕ → Device → ProgramFault → Type 0
IsBatchFault q from to sink Budget = AreDeals from to × (IsBudget q.method.strategy.budget → ⊥) × IsUntouched sink
IsBatchFault q from to sink Memory = IsBudget q.method.strategy.budget × IsBatchFaultBy ByMethod q from to sink Memory
IsBatchFault q from to sink (Write of_answer) = IsBudget q.method.strategy.budget × IsBatchFaultBy ByMethod q from to sink (Write of_answer)
IsBatchFault q from to sink fault = IsBatchFaultBy ByMethod q from to sink fault
