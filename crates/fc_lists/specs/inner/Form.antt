-- The entry of a line that tells it in words, as the text does.
use Rattle.std.specs.Prelude.{ℕ, List}
use Rattle.fc_lists.specs.Alone.{IsSaidLine, IsWordedLine}
use Rattle.fc_lists.specs.declared.list_lines.Form.{Form}
use Rattle.fc_lists.specs.declared.list_lines.Form.TheVariants.{InWords, Sayings}

-- the entry of a line among those of a text of this form
abbrev pub IsLineEntry : Form → List ℕ → List ℕ → Type 0
IsLineEntry Sayings line own = IsSaidLine line own
IsLineEntry (InWords has_sequences) line own = IsWordedLine has_sequences line own
