-- How a sequence is carried card by card: over free cells, and by halves over spare columns, within the crate.
use Rattle.std.specs.Prelude.{◌≡◌, ◌≢◌, ℕ, ◌+◌, ◌-◌, ◌*◌, ◌^◌, ◌<◌, ◌≤◌, length, List, [], All, AllPairs, None, slice_index}
use Rattle.fc_position.specs.Board.{Board, column, cell}
use Rattle.fc_moves.specs.declared.steps.Move.{Move}
use Rattle.fc_moves.specs.GameRules.{GameRules, IsPositionOf, Stands, Opens}
use Rattle.fc_moves.specs.Step.{MayLand}
use Rattle.fc_sequences.specs.declared.carries.Load.{Load}
use Rattle.fc_sequences.specs.Sequence.{board_after_carry}
use Rattle.fc_sequences.specs.Carry.{AddsRun, AddsRun}

-- each of the last k cards of a column but the deepest may stand on the one before it
abbrev pub EndsInSequence : GameRules → ℕ → List ℕ → Type 0
EndsInSequence g k cards = (a : ℕ) → length cards ≤ a + k → a + 1 < length cards
    → Stands g (slice_index cards (a + 1)) (slice_index cards a)

-- each of the last k cards of a column but the deepest may open a column
abbrev pub EndOpens : GameRules → ℕ → List ℕ → Type 0
EndOpens g k cards = (a : ℕ) → length cards < a + k → a < length cards → Opens g (slice_index cards a)

-- the last k cards of column i are a sequence that may lie on column j
pub record MayLie (g : GameRules) (b : Board) (i j k : ℕ) : Type 0 where
  pub from : i < 8
  pub to : j < 8
  pub other : j ≢ i
  pub some_cards : 1 ≤ k
  pub there : k ≤ length (column b i)
  pub sequence : EndsInSequence g k (column b i)
  pub lands : MayLand g (column b j) (slice_index (column b i) (length (column b i) - k))

-- these are at most four empty cells of the game, each named once
pub record AreFreeCells (g : GameRules) (b : Board) (cells : List ℕ) : Type 0 where
  pub free : All (λ a. (a < g.cells) × (a < 4) × (cell b a ≡ None)) cells
  pub once : AllPairs (λ x y. x ≢ y) cells
  pub few : length cells ≤ 4

-- these are at most eight empty columns other than i and j, each named once
pub record AreSpareColumns (b : Board) (i j : ℕ) (columns : List ℕ) : Type 0 where
  pub spare : All (λ s. (s < 8) × (s ≢ i) × (s ≢ j) × (column b s ≡ [])) columns
  pub once : AllPairs (λ x y. x ≢ y) columns
  pub few : length columns ≤ 8

-- so many cards, the last of the one column, that are to go to the other
abbrev pub load_of : ℕ → ℕ → ℕ → Load
load_of i j k = record { from = i; to = j; count = k }

-- the cards may be carried over these cells
pub record MayCarryBy (g : GameRules) (b : Board) (load : Load) (cells : List ℕ) : Type 0 where
  pub lies : MayLie g b load.from load.to load.count
  pub free : AreFreeCells g b cells
  pub enough : load.count ≤ length cells + 1
  pub fits : IsPositionOf g b

-- the cards may be carried over these cells and these columns
pub record MayCarryOver (g : GameRules) (b : Board) (load : Load) (cells columns : List ℕ) : Type 0 where
  pub lies : MayLie g b load.from load.to load.count
  pub opens : EndOpens g load.count (column b load.from)
  pub free : AreFreeCells g b cells
  pub spare : AreSpareColumns b load.from load.to columns
  pub enough : load.count ≤ (length cells + 1) * 2 ^ length columns
  pub fits : IsPositionOf g b

-- a board, and the list of the moves that were made so far
pub record RunSoFar : Type 0 where
  pub board : Board
  pub moves : List Move

-- this board, with this list of moves
abbrev pub reached_at : Board → List Move → RunSoFar
reached_at b ms = record { board = b; moves = ms }

-- the cards were carried, by so many moves, which were added to the list
pub record Carries (g : GameRules) (load : Load) (count : ℕ) (old new : RunSoFar) : Type 0 where
  pub after : new.board ≡ board_after_carry old.board load.from load.to load.count
  pub run : AddsRun g old.board old.moves new.board new.moves
  pub count_is : length new.moves ≡ length old.moves + count
