-- What a row tells of a board.
use Rattle.std.specs.Prelude.{◌≡◌, ℕ, ◌++◌, List, [], Option, Some, None, IfSome, IsSome, codes, decimal}
use Rattle.fc_position.specs.Board.{Board}
use Rattle.fc_moves.specs.declared.steps.Move.{Move}
use Rattle.fc_methods.specs.Method.{QuestionData}
use Rattle.fc_answers.specs.declared.answers.Outcome.{Outcome}
use Rattle.fc_answers.specs.declared.answers.Outcome.TheVariants.{Shortest, Won, CannotWin, GaveUp}
use Rattle.fc_answers.specs.declared.answers.Verdict.{Verdict}
use Rattle.fc_answers.specs.Verdict.{outcome_of}
use Rattle.fc_best.specs.Answering.{HearsOfThem, HearsVerdict, IsVerdictFor}
use Rattle.fc_best.specs.Best.{IsFloor}
use Rattle.fc_search.specs.Problem.{problem_of}
use Rattle.fc_search.specs.Watch.{Better, Far as how_far, Report}
use Rattle.fc_search.specs.declared.listeners.Progress.{Progress}
use Rattle.fc_board_runs.specs.declared.faults.Output.TheVariants.{Cert as of_certificate}
use Rattle.fc_board_runs.specs.declared.faults.ProgramFault.{ProgramFault}
use Rattle.fc_board_runs.specs.declared.faults.ProgramFault.TheVariants.{Write}
use Rattle.fc_board_runs.specs.Devices.{Device, IsUntouched}
use Rattle.fc_runs.specs.declared.answer_rows.Far.{Far}
use Rattle.fc_runs.specs.declared.answer_rows.Row.{Row}
use Rattle.fc_runs.specs.Lists.{list_of}
use Rattle.fc_runs.specs.Solving.{IsCertified, IsCutShort}

-- what an answer is called in a table, or that memory was wanted
abbrev pub answer_name : Option Outcome → List ℕ
answer_name (Some (Shortest count)) = codes "shortest"
answer_name (Some (Won count floor)) = codes "won"
answer_name (Some CannotWin) = codes "can't be won"
answer_name (Some (GaveUp budget)) = codes "gave up"
answer_name None = codes "want of memory"

-- how many moves an answer has, if it has any
abbrev pub moves_of : Option Outcome → Option ℕ
moves_of (Some (Shortest count)) = Some count
moves_of (Some (Won count floor)) = Some count
moves_of (Some CannotWin) = None
moves_of (Some (GaveUp budget)) = None
moves_of None = None

-- the floor that was told last, if any was
abbrev pub told_floor : Option Far → Option ℕ
told_floor (Some far) = Some far.at_least
told_floor None = None

-- how many moves each list that wins has at least: as the answer tells it, or else the search; nothing where no list wins
abbrev pub floor_of : Option Outcome → Option Far → Option ℕ
floor_of (Some (Shortest count)) far = Some count
floor_of (Some (Won count floor)) far = Some floor
floor_of (Some CannotWin) far = None
floor_of (Some (GaveUp budget)) far = told_floor far
floor_of None far = told_floor far

-- a number in its cell, which is empty where there is none
abbrev pub number_text : Option ℕ → List ℕ
number_text (Some n) = decimal n
number_text None = []

-- the cells of what a search told of itself, and the end of a row: the classes, the turns and the most that was open; the
-- cells are empty where it told nothing
abbrev pub far_text : Option Far → List ℕ
far_text (Some far) = decimal far.classes ++ codes "\t" ++ decimal far.turns ++ codes "\t" ++ decimal far.most_open ++ codes "\n"
far_text None = codes "\t\t\n"

-- the cells of a row behind its name, each after a tab, and its end: the answer, how many moves it has, the floor, the budget, and
-- what its search told
abbrev pub cells_text : Row → List ℕ
cells_text row = codes "\t" ++ answer_name row.told ++ codes "\t" ++ number_text (moves_of row.told) ++ codes "\t"
    ++ number_text (floor_of row.told row.far) ++ codes "\t" ++ number_text (Some row.budget) ++ codes "\t" ++ far_text row.far

-- an answer and a list are told of a board: those of a verdict that was sought, of which the sink of certificates, where there is
-- one, took the certificate
pub record IsAnswerOf (q : QuestionData) (b : Board) (cert : Option Device) (told : Outcome) (list : Option (List Move)) : Type 0 where
  pub verdict : Verdict
  pub decided : IsVerdictFor q b verdict
  pub certified : IfSome cert (IsCertified (problem_of q b) verdict)
  pub answer : told ≡ outcome_of verdict
  pub listed : list ≡ list_of verdict

-- what is told of a board: its answer and the list of it; or that memory was wanted, and then there is no list, and no certificate
-- is written
abbrev pub IsToldIn : QuestionData → Board → Option Device → Option Outcome → Option (List Move) → Type 0
IsToldIn q b cert None list = (list ≡ None) × IfSome cert IsUntouched
IsToldIn q b cert (Some told) list = IsAnswerOf q b cert told list

-- what a row keeps of how far searches are
abbrev pub far_of : Progress → Far
far_of far = record { classes = far.classes; turns = far.turns; most_open = far.most_open; at_least = far.at_least }

-- who keeps what is told last keeps how far searches are, and no list
abbrev pub KeepsFar : Option Far → Report → Option Far → Type 0
KeepsFar old (how_far far) new = new ≡ Some (far_of far)
KeepsFar old (Better moves floor) new = new ≡ old

-- this is what the searches of a question from a board told last: at their end, where the answer is theirs; or until memory was
-- wanted, if they told anything
abbrev pub IsToldLast : QuestionData → Board → Option Outcome → Option Far → Type 0
IsToldLast q b (Some told) far = (verdict : Verdict) × (told ≡ outcome_of verdict) × HearsVerdict KeepsFar q.sought q b verdict None far
IsToldLast q b None far = HearsOfThem KeepsFar q.sought q b None far

-- a row is right for a board: its budget is the question's, and what it tells is right; its numbers are what its searches told last,
-- which is something where memory wasn't wanted; and no list of fewer moves than its floor wins
pub record IsRowOf (q : QuestionData) (b : Board) (cert : Option Device) (row : Row) : Type 0 where
  pub budget : row.budget ≡ q.method.strategy.budget
  pub told : IsToldIn q b cert row.told row.list
  pub searched : IsSome row.told → IsSome row.far
  pub heard : IsToldLast q b row.told row.far
  pub floor : IfSome (floor_of row.told row.far) (IsFloor q.game b)

-- why a board has no row: the certificate of what was sought couldn't be written, of which a front may be
abbrev pub IsNoRow : QuestionData → Board → Option Device → ProgramFault → Type 0
IsNoRow q b cert (Write of_certificate) = (verdict : Verdict) × IsVerdictFor q b verdict
    × ((lent : Device) × (cert ≡ Some lent) × IsCutShort (problem_of q b) verdict lent)
IsNoRow q b cert other = ⊥
