-- Rows of a text in rows that might be read otherwise.
use Rattle.std.specs.Prelude.{◌≡◌, ℕ, ◌<◌, Bool, false, IsSome, is_some, List, Option, None, slice_index_or}
use Rattle.fc_row_text.specs.declared.readings.Reading.{Reading}
use Rattle.fc_row_text.specs.declared.row_lines.RowLineKind.{RowLineKind}
use Rattle.fc_row_text.specs.declared.row_lines.RowLineKind.TheVariants.{Row}
use Rattle.fc_row_text.specs.declared.spans.Span.{Span}

-- a row has an entry for each column
abbrev pub HasEachEntry : List (Option Span) → Type 0
HasEachEntry entries = (i : ℕ) → i < 8 → IsSome (slice_index_or entries i None)

-- a row with fewer than eight entries, and no line of numbers tells of which columns they are
pub record IsShortRow (kind : RowLineKind) (reading : Reading) : Type 0 where
  pub row : kind ≡ Row
  pub unsure : reading.is_sure ≡ false
  pub short : HasEachEntry reading.entries → ⊥

-- the columns for which a row has an entry
abbrev pub AreRead : List (Option Span) → List Bool → Type 0
AreRead entries columns = (i : ℕ) → i < 8 → slice_index_or columns i false ≡ is_some (slice_index_or entries i None)
