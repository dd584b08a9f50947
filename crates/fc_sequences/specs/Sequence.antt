-- Sequences: cards at the end of a column that lie on each other, and the board after one is moved as a whole.
use Rattle.std.specs.Prelude.{◌≢◌, ℕ, ◌+◌, ◌-◌, ◌*◌, ◌^◌, ◌<◌, ◌≤◌, ◌⊎◌, ◌==◌, ◌&&◌, Bool, not, is_none, length, take, drop, List, ◌++◌, All, filter, slice_set, slice_index}
use Rattle.std.specs.List.{range_with_len}
use Rattle.fc_position.specs.Board.{Board, column, cell}
use Rattle.fc_moves.specs.GameRules.{GameRules, Stands, Opens}
use Rattle.fc_moves.specs.Step.{MayLand}

-- the last k cards of a column, the deepest first, and the cards before them
abbrev pub last_cards : ℕ → List ℕ → List ℕ
last_cards k cards = drop (length cards - k) cards

abbrev pub cards_before : ℕ → List ℕ → List ℕ
cards_before k cards = take (length cards - k) cards

-- each card may stand on the one before it
abbrev pub IsSequence : GameRules → List ℕ → Type 0
IsSequence g cards = (a : ℕ) → a + 1 < length cards → Stands g (slice_index cards (a + 1)) (slice_index cards a)

-- the board with the last k cards of column i put, as they lie, on column j
abbrev pub board_after_carry : Board → ℕ → ℕ → ℕ → Board
board_after_carry b i j k = record b {
  columns = slice_set (slice_set b.columns i (cards_before k (column b i))) j (column b j ++ last_cards k (column b i));
}

-- the game's cells that are empty
abbrev pub free_cells : GameRules → Board → List ℕ
free_cells g b = filter (λ a. is_none (cell b a)) (range_with_len 0 g.cells)

-- the column s is another than column j, and empty
unfoldable pub is_spare : Board → ℕ → ℕ → Bool
is_spare b j s = not (s == j) && (length (column b s) == 0)

-- the columns other than column j that are empty
unfoldable pub spare_columns : Board → ℕ → List ℕ
spare_columns b j = filter (is_spare b j) (range_with_len 0 8)

-- so many cells and columns are enough to carry these cards, which are to lie on column j: one card more than there are
-- free cells; and, where each card but the first may open a column, twice as many for each spare column
abbrev pub AreEnough : GameRules → Board → ℕ → List ℕ → Type 0
AreEnough g b j cards = (length cards ≤ length (free_cells g b) + 1)
    ⊎ (All (Opens g) (drop 1 cards) × (length cards ≤ (length (free_cells g b) + 1) * 2 ^ length (spare_columns b j)))

-- the last k cards of column i may be carried to column j at once: they are a sequence, the first of them may land there,
-- and there are enough free cells and spare columns
pub record MayCarry (g : GameRules) (b : Board) (i j k : ℕ) : Type 0 where
  pub from : i < 8
  pub to : j < 8
  pub other : j ≢ i
  pub some : 1 ≤ k
  pub there : k ≤ length (column b i)
  pub sequence : IsSequence g (last_cards k (column b i))
  pub lands : MayLand g (column b j) (slice_index (column b i) (length (column b i) - k))
  pub enough : AreEnough g b j (last_cards k (column b i))
