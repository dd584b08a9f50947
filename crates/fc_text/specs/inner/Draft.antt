-- What a half-filled board has of the lines that were read.
use Rattle.std.specs.Prelude.{◌≡◌, ℕ, ◌+◌, ◌<◌, ◌≤◌, ◌↔◌, IsTrue, List, [], length, map, min, take, replicate, All, sum_by, count_by, slice_index_or}
use Rattle.fc_position.specs.Board.{Board, column, count_in_column, count_in_cell}
use Rattle.fc_position.specs.Tally.{Adds}
use Rattle.fc_text.specs.declared.drafts.Draft.{Draft}
use Rattle.fc_text.specs.declared.lines.LineKind.TheVariants.{Foundations, Freecells, Column}
use Rattle.fc_text.specs.Line.{Line, tokens_of}
use Rattle.fc_text.specs.Spelling.{SpellsBoard, is_kind}

-- how often a card stands in columns and cells
abbrev pub dealt_places : Board → ℕ → ℕ
dealt_places b c = sum_by (count_in_column c) b.columns + sum_by (count_in_cell c) b.cells

-- the draft is of a board that the lines spell: it keeps 52 cards of a column, and counts all
pub record IsDraftOf (lines : List Line) (d : Draft) : Type 0 where
  pub board : Board
  pub spelled : SpellsBoard lines board
  pub kept : (i : ℕ) → i < 8 → slice_index_or (map (λ v. v.items) d.columns) i [] ≡ take 52 (column board i)
  pub eight : length d.columns ≡ 8
  pub column_count : d.column_count ≡ min (count_by (is_kind Column) lines) 8
  pub cells : board.cells ≡ d.cells
  pub has_cells : IsTrue d.has_cells ↔ (0 < count_by (is_kind Freecells) lines)
  pub homes : board.homes ≡ d.homes
  pub most : All (λ n. n ≤ 13) d.homes
  pub has_homes : IsTrue d.has_homes ↔ (0 < count_by (is_kind Foundations) lines)
  pub tally : Adds (dealt_places board) (replicate 52 0) d.tally

-- a column line with the tokens of a piece
abbrev pub column_line : List ℕ → Line
column_line piece = record { kind = Column; tokens = tokens_of piece }

-- a cell line with the tokens of a piece
abbrev pub cells_line : List ℕ → Line
cells_line piece = record { kind = Freecells; tokens = tokens_of piece }

-- a foundation line with the tokens of a piece
abbrev pub homes_line : List ℕ → Line
homes_line piece = record { kind = Foundations; tokens = tokens_of piece }
