-- What a table of several deals promises, over any sink.
use Rattle.std.specs.Prelude.{◌≡◌, ◌⊎◌, ℕ, ◌+◌, ◌≤◌, List, [], ◌∷◌, ◌++◌, length, map, slice_get, Option, Some, None, IsTrue, codes, decimal}
use Rattle.std.specs.List.{flat_map}
use Rattle.fc_io.specs.Moves.{TakesBytes, TakesFront}
use Rattle.fc_deal.specs.Deal.{IsDealNumber, dealt_board}
use Rattle.fc_methods.specs.Method.{QuestionData}
use Rattle.fc_search.specs.Watch.{HearsAll}
use Rattle.fc_board_runs.specs.declared.faults.Output.TheVariants.{Answer as of_answer}
use Rattle.fc_board_runs.specs.declared.faults.ProgramFault.{ProgramFault}
use Rattle.fc_board_runs.specs.declared.faults.ProgramFault.TheVariants.{Number, Range, Write}
use Rattle.fc_board_runs.specs.Devices.{Device, IsUntouched}
use Rattle.fc_runs.specs.declared.answer_rows.Row.{Row}
use Rattle.fc_runs.specs.Batches.{greatest_status}
use Rattle.fc_runs.specs.Rows.{IsRowOf, cells_text}
use Rattle.fc_answer_text.specs.AnswerText.{Line}

-- the names of the columns, where a row is of a deal
abbrev pub names_text : List ℕ
names_text = codes "deal\tanswer\tmoves\tfloor\tbudget\tstored\tturns\topen\n"

-- a row of a table: the number of a deal, and what is told of it
pub record DealRow : Type 0 where
  pub deal : ℕ
  pub row : Row

-- a row as it is printed, its cells parted by tabs: the number of the deal, and what is told
abbrev pub row_text : DealRow → List ℕ
row_text row = decimal row.deal ++ cells_text row.row

-- a table as it is printed: the names of the columns, and the rows
abbrev pub table_text : List DealRow → List ℕ
table_text rows = names_text ++ flat_map row_text rows

-- the line of a batch that tells the same of the deal
abbrev pub line_of : DealRow → Line
line_of row = record { deal = row.deal; told = row.row.told }

-- a listener hears of these rows, one after the other, and of nothing else
abbrev pub HearsRows : {L : Type 0} → (L → Row → L → Type 0) → L → L → List DealRow → Type 0
HearsRows hears old new rows = HearsAll hears old (map (λ row. row.row) rows) new

-- rows that are right, one a deal, rising from this one
pub record AreRows (q : QuestionData) (from : ℕ) (rows : List DealRow) : Type 0 where
  pub rising : (i : ℕ) (row : DealRow) → slice_get rows i ≡ Some row → row.deal ≡ from + i
  pub right : (i : ℕ) (row : DealRow) → slice_get rows i ≡ Some row → IsRowOf q (dealt_board row.deal) None row.row

-- a table that can be asked for, of so many deals: both numbers are of deals, and they don't fall
pub record IsTableAsked (from to count : ℕ) : Type 0 where
  pub first : IsDealNumber from
  pub last : IsDealNumber to
  pub rising : from ≤ to
  pub whole : from + count ≡ to + 1

-- why a table can't be asked for, each fault only where those before it have no cause: a number, the first one first, is of no
-- deal; or they fall
abbrev pub IsTableUnasked : ℕ → ℕ → ProgramFault → Type 0
IsTableUnasked from to (Number told) =
    ((IsDealNumber from → ⊥) × (told ≡ from)) ⊎ (IsDealNumber from × (IsDealNumber to → ⊥) × (told ≡ to))
IsTableUnasked from to Range = IsDealNumber from × IsDealNumber to × (from ≤ to → ⊥)
IsTableUnasked from to other = ⊥

-- so many deals were told: the sink took the names and a row for each, the listener heard of these rows, and the status is the
-- greatest of theirs
pub record AreTabled (q : QuestionData) (from count : ℕ) (sink : Device) (hears : List DealRow → Type 0) (status : ℕ) : Type 0 where
  pub rows : List DealRow
  pub right : AreRows q from rows
  pub whole : length rows ≡ count
  pub written : TakesBytes sink.old sink.new (table_text rows)
  pub sound : IsTrue sink.failed → ⊥
  pub greatest : status ≡ greatest_status (map line_of rows)
  pub heard : hears rows

-- a table was told: it can be asked for, and each of its deals was told
pub record IsTabled (q : QuestionData) (from to : ℕ) (sink : Device) (hears : List DealRow → Type 0) (status : ℕ) : Type 0 where
  pub count : ℕ
  pub asked : IsTableAsked from to count
  pub told : AreTabled q from count sink hears status

-- the sink took the names and the rows before the last one, which the listener heard of, and then a front of that one, of which it
-- didn't hear
pub record IsCutAtLast (sink : Device) (hears : List DealRow → Type 0) (rows : List DealRow) : Type 0 where
  pub before : List DealRow
  pub last : DealRow
  pub parts : rows ≡ before ++ last ∷ []
  pub mid : Option (List ℕ)
  pub written : TakesBytes sink.old mid (table_text before)
  pub front : TakesFront mid sink.new (row_text last)
  pub heard : hears before

-- the sink failed while it was given the names and the rows of at most so many deals: at the names, and the listener heard of no
-- row; or at the last of the rows
pub record IsTableCutShort (q : QuestionData) (from count : ℕ) (sink : Device) (hears : List DealRow → Type 0) : Type 0 where
  pub rows : List DealRow
  pub right : AreRows q from rows
  pub some : length rows ≤ count
  pub front : TakesFront sink.old sink.new (table_text rows)
  pub failed : IsTrue sink.failed
  pub heard : ((rows ≡ []) × hears []) ⊎ IsCutAtLast sink hears rows

-- why no table was told, or not all of one: it can't be asked for, and nothing is written or heard of; or the sink failed
abbrev pub IsTableFault : QuestionData → ℕ → ℕ → Device → (List DealRow → Type 0) → ProgramFault → Type 0
IsTableFault q from to sink hears (Write of_answer) =
    (count : ℕ) × IsTableAsked from to count × IsTableCutShort q from count sink hears
IsTableFault q from to sink hears fault = IsTableUnasked from to fault × IsUntouched sink × hears []
