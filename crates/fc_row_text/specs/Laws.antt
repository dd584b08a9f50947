-- What the laws of this crate state.
use Rattle.std.specs.Prelude.{◌≡◌, ℕ, ◌<◌, ◌≤◌, false, cond, None, List, [], ◌∷◌}
use Rattle.std.specs.List.{AllZip, flat_map}
use Rattle.fc_position.specs.Board.{Board, column}
use Rattle.fc_position.specs.Position.{Fits, IsPosition}
use Rattle.fc_typed.specs.Tidy.{tidy}
use Rattle.fc_show.specs.Drawing.{drawing, style_without_mark}
use Rattle.fc_text.specs.Board.{Spells}
use Rattle.fc_text.specs.Printed.{board_text}
use Rattle.fc_text.specs.Spelling.{SpellsCard}
use Rattle.fc_row_text.specs.RowText.{RowLine, text_in_columns, entry_at, is_none, is_row, row_text_fault, row_lines}

-- an entry, where it doesn't stand for no card
abbrev pub some_entry : List ℕ → List (List ℕ)
some_entry entry = cond (is_none entry) [] (entry ∷ [])

-- the entry that a line has for column k, where it is a row and has one
abbrev pub row_entry : ℕ → RowLine → List (List ℕ)
row_entry k told = cond (is_row told.kind) (some_entry (entry_at k told)) []

-- the entries of rows for column k, the deepest first
abbrev pub entries_of : ℕ → List RowLine → List (List ℕ)
entries_of k lines = flat_map (row_entry k) lines

-- where the text in columns spells a position, the entries of the rows for a column spell its cards, the deepest first
abbrev pub EntriesAreColumns : Type 0
EntriesAreColumns = (cells : ℕ) (text : List ℕ) (b : Board) (k : ℕ) → Spells cells (text_in_columns text) b → k < 8
    → AllZip SpellsCard (entries_of k (row_lines text)) (column b k)

-- the drawing of a position has no fault, and its text in columns is the board's printed text
abbrev pub DrawingsAreBoards : Type 0
DrawingsAreBoards = (n : ℕ) (b : Board) → n ≤ 4 → IsPosition b → Fits n b
    → (row_text_fault (drawing (style_without_mark false) n b) ≡ None) × (text_in_columns (drawing (style_without_mark false) n b) ≡ board_text n b)

-- the drawing of a position is tidy already
abbrev pub DrawingsAreTidy : Type 0
DrawingsAreTidy = (n : ℕ) (b : Board) → n ≤ 4 → IsPosition b → Fits n b
    → tidy (drawing (style_without_mark false) n b) ≡ drawing (style_without_mark false) n b

-- so the reader reads the position back from its drawing, made tidy and put into columns
abbrev pub DrawingsReadBack : Type 0
DrawingsReadBack = (n : ℕ) (b : Board) → n ≤ 4 → IsPosition b → Fits n b
    → Spells n (text_in_columns (tidy (drawing (style_without_mark false) n b))) b
