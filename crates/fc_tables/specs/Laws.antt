-- What the laws of this crate state.
use Rattle.std.specs.Prelude.{ℕ, ◌+◌, ◌<◌, ◌≤◌, ◌↔◌, length, List, [], Option, Contains}
use Rattle.fc_position.specs.Board.{Board}
use Rattle.fc_position.specs.Position.{IsShaped, IsPosition, Fits}
use Rattle.fc_moves.specs.declared.steps.Move.{Move}
use Rattle.fc_moves.specs.GameRules.{GameRules, Opens, IsPositionOf}
use Rattle.fc_moves.specs.Run.{Wins, CannotWin}
use Rattle.fc_moves.specs.Class.{SameClass}
use Rattle.fc_bound.specs.LowerBound.{IsLowerBound}
use Rattle.fc_tables.specs.Table.{Table, IsCoveredBelow, StepsCovered, StepsListed, ClassesCovered, ClassesListed, ListsFitting, IsClosedBelow, IsClosedInside, IsClosed, IsSeenClosedBelow, IsSeenClosed, SettlesEach, IsLossless, IsClosedBy}

-- a table that is closed below n by a bound is so by each bound that is nowhere less of a position
abbrev pub GreaterBoundsCloseToo : Type 0
GreaterBoundsCloseToo = (low high : Board → ℕ) (g : GameRules) (rule : ℕ) (p : Board) (n : ℕ) (T : Table) → IsPositionOf g p
    → ((b : Board) → IsPosition b → low b ≤ high b) → IsClosedBelow low g rule p n T → IsClosedBelow high g rule p n T

-- a table closed below n from a position of the game leaves no winning list shorter than n
abbrev pub ClosedBelowLeavesNoShorterList : Type 0
ClosedBelowLeavesNoShorterList = (low : Board → ℕ) (g : GameRules) (rule : ℕ) (p : Board) (n : ℕ) (T : Table) (ms : List Move) → IsLowerBound low → IsPositionOf g p
    → IsClosedBelow low g rule p n T → Wins g p ms → n ≤ length ms

-- a closed table leaves no winning list at all
abbrev pub ClosedLeavesNoList : Type 0
ClosedLeavesNoList = (g : GameRules) (rule : ℕ) (p : Board) (T : Table) → IsPositionOf g p → IsClosed g rule p T → CannotWin g p

-- nor does one that is closed by any way of settling by which every position of the game settles, and nothing is lost
abbrev pub ClosedByAnySettlingLeavesNoList : Type 0
ClosedByAnySettlingLeavesNoList = (settle : Board → Option (ℕ × Board)) (g : GameRules) (p : Board) (T : Table) → IsPositionOf g p
    → SettlesEach settle g → IsLossless settle g → IsClosedBy settle g p T → CannotWin g p

-- where positions need not settle, that fails: in every game a table is closed by some lossless way of settling, for a
-- position of the game from which a list of moves wins
abbrev pub ClosedTablesNeedSettling : Type 0
ClosedTablesNeedSettling = (g : GameRules) → (settle : Board → Option (ℕ × Board)) × (p : Board) × (T : Table) × (ms : List Move)
    × IsPositionOf g p × IsLossless settle g × IsClosedBy settle g p T × Wins g p ms

-- some table is closed for the board, and closed below every number whatever the bound, and yet a list of moves wins from the board
pub record IsClosedYetWon (g : GameRules) (rule : ℕ) (p : Board) : Type 0 where
  pub table : Table
  pub moves : List Move
  pub closed : IsClosed g rule p table
  pub below : (low : Board → ℕ) (n : ℕ) → IsClosedBelow low g rule p n table
  pub wins : Wins g p moves

-- so it is from a position that doesn't fit the game: in each game with less than four cells in which the king of spades
-- may go to an empty column, and by each home rule
abbrev pub ClosedTablesNeedFitting : Type 0
ClosedTablesNeedFitting = (g : GameRules) (rule : ℕ) → g.cells < 4 → Opens g 51
    → (p : Board) × IsPosition p × IsClosedYetWon g rule p

-- and from a board that fits, but on which a card has two places: in each game with a cell, and by each home rule
abbrev pub ClosedTablesNeedPositions : Type 0
ClosedTablesNeedPositions = (g : GameRules) (rule : ℕ) → 0 < g.cells
    → (p : Board) × IsShaped p × Fits g.cells p × IsClosedYetWon g rule p

-- a table that is closed inside n leaves no winning list shorter than n either
abbrev pub ClosedInsideLeavesNoShorterList : Type 0
ClosedInsideLeavesNoShorterList = (low : Board → ℕ) (g : GameRules) (rule : ℕ) (p : Board) (n : ℕ) (T : Table) (ms : List Move) → IsLowerBound low → IsPositionOf g p
    → IsClosedInside low g rule p n T → Wins g p ms → n ≤ length ms

-- a table closed below n is closed inside n
abbrev pub ClosedBelowIsClosedInside : Type 0
ClosedBelowIsClosedInside = (low : Board → ℕ) (g : GameRules) (rule : ℕ) (p : Board) (n : ℕ) (T : Table) → IsClosedBelow low g rule p n T
    → IsClosedInside low g rule p n T

-- of two positions of the game that are of one class, each class that the steps of the one lead to is covered, looked at
-- once, exactly where the steps of the other are covered
abbrev pub OneBoardOfAClassIsEnough : Type 0
OneBoardOfAClassIsEnough = (low : Board → ℕ) (g : GameRules) (rule : ℕ) (n : ℕ) (T : Table) (x y : Board) (d : ℕ) → IsLowerBound low → IsPositionOf g x → IsPositionOf g y
    → SameClass x y → ClassesCovered (IsCoveredBelow low n T) g rule x d ↔ StepsCovered (IsCoveredBelow low n T) g rule y d

-- the same of being listed
abbrev pub OneBoardIsEnoughWithoutBound : Type 0
OneBoardIsEnoughWithoutBound = (g : GameRules) (rule : ℕ) (T : Table) (x y : Board) → IsPositionOf g x → IsPositionOf g y
    → SameClass x y → ClassesListed g rule T x ↔ StepsListed g rule T y

-- where a look at the listed boards alone, by one step to each class, shows a table to be closed below n, it is, and
-- where it is, that look shows it
abbrev pub ClosedBelowIsSeen : Type 0
ClosedBelowIsSeen = (low : Board → ℕ) (g : GameRules) (rule : ℕ) (p : Board) (n : ℕ) (T : Table) → IsLowerBound low → IsPositionOf g p → ListsFitting g T
    → IsSeenClosedBelow low g rule p n T ↔ IsClosedBelow low g rule p n T

-- the same of closed tables
abbrev pub ClosedIsSeen : Type 0
ClosedIsSeen = (g : GameRules) (rule : ℕ) (p : Board) (T : Table) → IsPositionOf g p → ListsFitting g T
    → IsSeenClosed g rule p T ↔ IsClosed g rule p T

-- of a table that is closed inside n, the pairs whose cost and bound are below n are a table closed below n
abbrev pub RowsInsideAreClosedBelow : Type 0
RowsInsideAreClosedBelow = (low : Board → ℕ) (g : GameRules) (rule : ℕ) (p : Board) (n : ℕ) (S T : Table) → IsLowerBound low → IsClosedInside low g rule p n T
    → ((e : Board × ℕ) → Contains S e ↔ (Contains T e × (e.1 + low e.0 < n))) → IsClosedBelow low g rule p n S

-- a table that is closed inside every number is closed
abbrev pub ClosedInsideAllIsClosed : Type 0
ClosedInsideAllIsClosed = (low : Board → ℕ) (g : GameRules) (rule : ℕ) (p : Board) (T : Table) → ((n : ℕ) → IsClosedInside low g rule p n T)
    → IsClosed g rule p T

-- a table with the boards of a closed one, at whatever costs, is closed
abbrev pub CostsOfClosedTablesAreFree : Type 0
CostsOfClosedTablesAreFree = (g : GameRules) (rule : ℕ) (p : Board) (S T : Table) → IsClosed g rule p T
    → ((x : Board) → ((d : ℕ) × Contains S (x, d)) ↔ ((d : ℕ) × Contains T (x, d))) → IsClosed g rule p S

-- so no empty table is closed
abbrev pub NoEmptyTableIsClosed : Type 0
NoEmptyTableIsClosed = (g : GameRules) (rule : ℕ) (p : Board) → IsClosed g rule p [] → ⊥
