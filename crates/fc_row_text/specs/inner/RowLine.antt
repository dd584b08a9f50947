-- Pieces of a text, within the crate.
use Rattle.std.specs.Prelude.{◌≡◌, ℕ, ◌<◌, List, ◌++◌, length}
use Rattle.fc_row_text.specs.RowText.{most_bytes}
use Rattle.fc_row_text.specs.declared.faults.RowTextFault.{RowTextFault}
use Rattle.fc_row_text.specs.declared.faults.RowTextFault.TheVariants.{TooLong}

-- a piece has no room behind these bytes
abbrev pub IsFull : List ℕ → List ℕ → RowTextFault → Type 0
IsFull bytes piece fault = (fault ≡ TooLong) × (most_bytes < length (bytes ++ piece))
