-- Faults of a board's text, each told by the number in its file of the line that has it.
use Rattle.std.specs.Prelude.{◌≡◌, ℕ, List}
use Rattle.fc_text.specs.declared.faults.BoardFault.{BoardFault}
use Rattle.fc_text.specs.declared.faults.BoardFault.TheVariants.{TooLong, BadCard, BadFoundation, TooManyCells, TooManyColumns, RepeatedLine, RepeatedCard, MissingCard}
use Rattle.fc_row_text.specs.declared.faults.RowTextFault.{RowTextFault}
use Rattle.fc_row_text.specs.declared.faults.RowTextFault.TheVariants.{BadHead, OpenRow, LongRow, ShortRow}
use Rattle.fc_notes.specs.FileLine.{IsFileLine}

-- the same fault, of the line of the file
abbrev pub IsInFile : List ℕ → ℕ → BoardFault → BoardFault → Type 0
IsInFile typed above (BadCard n) fault = (k : ℕ) × IsFileLine typed above n k × (fault ≡ BadCard k)
IsInFile typed above (BadFoundation n) fault = (k : ℕ) × IsFileLine typed above n k × (fault ≡ BadFoundation k)
IsInFile typed above (TooManyCells n) fault = (k : ℕ) × IsFileLine typed above n k × (fault ≡ TooManyCells k)
IsInFile typed above (TooManyColumns n) fault = (k : ℕ) × IsFileLine typed above n k × (fault ≡ TooManyColumns k)
IsInFile typed above (RepeatedLine n) fault = (k : ℕ) × IsFileLine typed above n k × (fault ≡ RepeatedLine k)
IsInFile typed above TooLong fault = fault ≡ TooLong
IsInFile typed above (RepeatedCard c) fault = fault ≡ RepeatedCard c
IsInFile typed above (MissingCard c) fault = fault ≡ MissingCard c

-- the same of a text in rows
abbrev pub IsRowInFile : List ℕ → ℕ → RowTextFault → RowTextFault → Type 0
IsRowInFile typed above RowTextFault.TooLong fault = fault ≡ RowTextFault.TooLong
IsRowInFile typed above (BadHead n) fault = (k : ℕ) × IsFileLine typed above n k × (fault ≡ BadHead k)
IsRowInFile typed above (OpenRow n entry) fault = (k : ℕ) × IsFileLine typed above n k × (fault ≡ OpenRow k entry)
IsRowInFile typed above (LongRow n) fault = (k : ℕ) × IsFileLine typed above n k × (fault ≡ LongRow k)
IsRowInFile typed above (ShortRow n) fault = (k : ℕ) × IsFileLine typed above n k × (fault ≡ ShortRow k)
