-- Which texts spell a position, and what is wrong with the others, within the crate.
use Rattle.std.specs.Prelude.{ℕ}
use Rattle.fc_position.specs.declared.faults.PartsFault.{PartsFault}
use Rattle.fc_position.specs.declared.faults.PartsFault.TheVariants.{Repeated, Missing}
use Rattle.fc_text.specs.declared.faults.BoardFault.{BoardFault}
use Rattle.fc_text.specs.declared.faults.BoardFault.TheVariants.{BadCard, BadFoundation, TooManyCells, TooManyColumns, RepeatedLine, RepeatedCard, MissingCard}
use Rattle.fc_text.specs.declared.faults.LineFault.{LineFault}

-- the fault of a line as a fault of the text
abbrev pub line_fault : ℕ → LineFault → BoardFault
line_fault k LineFault.BadCard = BadCard k
line_fault k LineFault.BadFoundation = BadFoundation k
line_fault k LineFault.TooManyCells = TooManyCells k
line_fault k LineFault.TooManyColumns = TooManyColumns k
line_fault k LineFault.RepeatedLine = RepeatedLine k

-- the fault of cards as a fault of the text
abbrev pub card_fault : PartsFault → BoardFault
card_fault (Repeated c) = RepeatedCard c
card_fault (Missing c) = MissingCard c
