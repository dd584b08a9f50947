-- Which texts spell a position, and what is wrong with the others.
use Rattle.std.specs.Prelude.{ℕ, ◌<◌, ◌≤◌, List, length}
use Rattle.fc_position.specs.Board.{Board, places}
use Rattle.fc_position.specs.Position.{IsPosition}
use Rattle.fc_position.specs.Tally.{IsFaultOf}
use Rattle.fc_position.specs.declared.faults.PartsFault.{PartsFault}
use Rattle.fc_position.specs.declared.faults.PartsFault.TheVariants.{Repeated, Missing}
use Rattle.fc_text.specs.declared.faults.BoardFault.{BoardFault}
use Rattle.fc_text.specs.declared.faults.BoardFault.TheVariants.{TooLong, BadCard, BadFoundation, TooManyCells, TooManyColumns, RepeatedLine, RepeatedCard, MissingCard}
use Rattle.fc_text.specs.declared.faults.LineFault.{LineFault}
use Rattle.fc_text.specs.Line.{board_lines}
use Rattle.fc_text.specs.Spelling.{SpellsBoard}
use Rattle.fc_text.specs.Fault.{AreSound, IsFirstFault}

-- a text of a game with n cells spells the position: at most 4,096 bytes, lines without a fault, and what they spell
pub record Spells (n : ℕ) (text : List ℕ) (b : Board) : Type 0 where
  pub short : length text ≤ 4096
  pub sound : AreSound n (board_lines text)
  pub spelled : SpellsBoard (board_lines text) b
  pub position : IsPosition b

-- a short text whose first line with a fault has this number and this fault
pub record HasLineFault (n : ℕ) (text : List ℕ) (number : ℕ) (fault : LineFault) : Type 0 where
  pub short : length text ≤ 4096
  pub first : IsFirstFault n (board_lines text) number fault

-- a short text without a faulty line, whose cards aren't a position's
pub record HasCardFault (n : ℕ) (text : List ℕ) (fault : PartsFault) : Type 0 where
  pub short : length text ≤ 4096
  pub sound : AreSound n (board_lines text)
  pub board : Board
  pub spelled : SpellsBoard (board_lines text) board
  pub here : IsFaultOf (places board) fault

-- what is wrong with a text
abbrev pub IsBoardFault : ℕ → List ℕ → BoardFault → Type 0
IsBoardFault n text TooLong = 4096 < length text
IsBoardFault n text (BadCard k) = HasLineFault n text k LineFault.BadCard
IsBoardFault n text (BadFoundation k) = HasLineFault n text k LineFault.BadFoundation
IsBoardFault n text (TooManyCells k) = HasLineFault n text k LineFault.TooManyCells
IsBoardFault n text (TooManyColumns k) = HasLineFault n text k LineFault.TooManyColumns
IsBoardFault n text (RepeatedLine k) = HasLineFault n text k LineFault.RepeatedLine
IsBoardFault n text (RepeatedCard c) = HasCardFault n text (Repeated c)
IsBoardFault n text (MissingCard c) = HasCardFault n text (Missing c)
