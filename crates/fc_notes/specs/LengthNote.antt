-- What is said of a board's lengths, and of the other way in which its text may be read.
use Rattle.std.specs.Prelude.{◌≢◌, ℕ, ◌↔◌, IsTrue, List, [], Option, Some, None}
use Rattle.fc_position.specs.Board.{Board, column}
use Rattle.fc_text.specs.Board.{Spells}
use Rattle.fc_notes.specs.Length.{AreLengths, CanBePlayedTo, HasSameColumns, IsDealInRows, IsLikeNoDeal, SpellsInRows}
use Rattle.fc_notes.specs.declared.length_notes.LengthNote.{LengthNote}
use Rattle.fc_notes.specs.declared.length_notes.LengthNote.TheVariants.{NotOfDeal, Other, Either}

-- the board that was taken comes from no deal, and another one can come from one
pub record IsOtherAlone (taken other : Board) : Type 0 where
  pub differs : HasSameColumns taken other → ⊥
  pub no_deal : CanBePlayedTo taken → ⊥
  pub can : CanBePlayedTo other

-- both can come from a deal, or neither, and the other one has a card in column 8
pub record IsEither (taken other : Board) : Type 0 where
  pub differs : HasSameColumns taken other → ⊥
  pub alike : CanBePlayedTo taken ↔ CanBePlayedTo other
  pub whole : column other 7 ≢ []

-- what is said of the board that was taken, beside another one
abbrev pub IsReadingNote : Board → Board → Option LengthNote → Type 0
IsReadingNote taken other None = (IsOtherAlone taken other → ⊥) × (IsEither taken other → ⊥)
IsReadingNote taken other (Some Other) = IsOtherAlone taken other
IsReadingNote taken other (Some Either) = IsEither taken other
IsReadingNote taken other (Some (NotOfDeal lengths in_rows)) = ⊥

-- what is said beside whatever the text spells when it is read the other way
abbrev pub IsNoteBeside : (Board → Type 0) → Board → Option LengthNote → Type 0
IsNoteBeside Spelled taken None = (other : Board) → Spelled other → IsReadingNote taken other None
IsNoteBeside Spelled taken (Some note) = (other : Board) × Spelled other × IsReadingNote taken other (Some note)

-- what is said of a board: its lengths, where they are those of no deal, and whether the text is a deal in rows; else of the other reading
abbrev pub IsLengthNote : Type 0 → (Board → Type 0) → Board → Option LengthNote → Type 0
IsLengthNote InRows Spelled taken (Some (NotOfDeal lengths in_rows)) =
    IsLikeNoDeal taken × AreLengths taken lengths × (IsTrue in_rows ↔ InRows)
IsLengthNote InRows Spelled taken (Some Other) = (IsLikeNoDeal taken → ⊥) × IsNoteBeside Spelled taken (Some Other)
IsLengthNote InRows Spelled taken (Some Either) = (IsLikeNoDeal taken → ⊥) × IsNoteBeside Spelled taken (Some Either)
IsLengthNote InRows Spelled taken None = (IsLikeNoDeal taken → ⊥) × IsNoteBeside Spelled taken None

-- what is said of a board that a text spells in columns, for a game with n cells
abbrev pub IsColumnsNote : ℕ → List ℕ → Board → Option LengthNote → Type 0
IsColumnsNote n text taken note = IsLengthNote (IsDealInRows n text) (SpellsInRows n text) taken note

-- what is said of a board that a text spells in rows
abbrev pub IsRowsNote : ℕ → List ℕ → Board → Option LengthNote → Type 0
IsRowsNote n text taken note = IsLengthNote ⊥ (Spells n text) taken note
