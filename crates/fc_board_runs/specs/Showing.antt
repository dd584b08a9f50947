-- What the run that shows a board promises, over any source and any sink.
use Rattle.std.specs.Prelude.{◌≡◌, ℕ, true, false, List, IsTrue}
use Rattle.fc_io.specs.Moves.{TakesBytes, TakesFront}
use Rattle.fc_position.specs.Board.{Board}
use Rattle.fc_text.specs.Printed.{board_text}
use Rattle.fc_show.specs.Drawing.{drawing, style_without_mark}
use Rattle.fc_board_runs.specs.declared.showing.Look.{Look}
use Rattle.fc_board_runs.specs.declared.showing.Look.TheVariants.{Drawn, Coloured, Text}
use Rattle.fc_board_runs.specs.declared.faults.Output.TheVariants.{Answer as of_answer}
use Rattle.fc_board_runs.specs.declared.faults.ProgramFault.{ProgramFault}
use Rattle.fc_board_runs.specs.declared.faults.ProgramFault.TheVariants.{Write}
use Rattle.fc_board_runs.specs.Devices.{Device}

-- what shows a board of a game with n cells: its drawing, without or with colours, or its text
abbrev pub look_text : Look → ℕ → Board → List ℕ
look_text Drawn n b = drawing (style_without_mark false) n b
look_text Coloured n b = drawing (style_without_mark true) n b
look_text Text n b = board_text n b

-- the sink took what shows a board
pub record IsLookWritten (look : Look) (n : ℕ) (b : Board) (sink : Device) (status : ℕ) : Type 0 where
  pub written : TakesBytes sink.old sink.new (look_text look n b)
  pub sound : IsTrue sink.failed → ⊥
  pub told : status ≡ 0

-- why not all that shows a board was written: the sink failed
abbrev pub IsShowFault : Look → ℕ → Board → Device → ProgramFault → Type 0
IsShowFault look n b sink (Write of_answer) = TakesFront sink.old sink.new (look_text look n b) × IsTrue sink.failed
IsShowFault look n b sink other = ⊥
