-- What the laws of this crate state.
use Rattle.std.specs.Prelude.{◌≡◌, ℕ, length, List}
use Rattle.fc_position.specs.Board.{Board}
use Rattle.fc_position.specs.Position.{IsPosition}
use Rattle.fc_moves.specs.declared.steps.Move.{Move}
use Rattle.fc_moves.specs.GameRules.{GameRules, IsGame, IsPositionOf}
use Rattle.fc_moves.specs.Run.{Run}
use Rattle.fc_moves.specs.Class.{SameClass}
use Rattle.fc_canonical.specs.Key.{IsKeyOf}
use Rattle.fc_canonical.specs.Spelled.{IsKeyIn, board_of_bytes}
use Rattle.fc_codes.specs.Spelled.{board_of_code}
use Rattle.fc_home.specs.Settles.{Settles}
use Rattle.fc_bound.specs.declared.kinds.BoundKind.{BoundKind}
use Rattle.fc_best_first.specs.Graph.{IsLawful, IsReached}
use Rattle.fc_classes.specs.Namings.{Naming, IsNaming, IsCodeIn, by_keys, by_codes}
use Rattle.fc_classes.specs.Classes.{classes}

-- keys name the classes of each game
abbrev pub KeysAreNames : Type 0
KeysAreNames = (g : GameRules) (p : Board) → IsPositionOf g p → IsNaming by_keys g p

-- codes, as seen from a position of the game, name the classes from there
abbrev pub CodesAreNames : Type 0
CodesAreNames = (g : GameRules) (p : Board) → IsGame g → IsPositionOf g p → IsNaming (by_codes p) g p

-- the key of the board that a code spells spells that board too, so that a table by codes is one by keys
abbrev pub KeysSpellWhatCodesDo : Type 0
KeysSpellWhatCodesDo = (g : GameRules) (s : Board) (code key : List ℕ) → IsPosition s → IsCodeIn s g code
    → IsKeyOf (board_of_code s code) key → IsKeyIn g key × (board_of_bytes key ≡ board_of_code s code)

-- a name that is reached spells a canonical position of the game, which is settled
abbrev pub ReachedNamesAreOfPositions : Naming → Type 0
ReachedNamesAreOfPositions naming = (kind : BoundKind) (g : GameRules) (rule : ℕ) (p : Board) (x : List ℕ) (cost : ℕ)
    → IsNaming naming g p → IsPositionOf g p → IsReached (classes naming kind g rule p) x cost
    → naming.valid g x × Settles g rule (naming.spelled x) 0 (naming.spelled x)

-- to a position of a class that is reached at a cost, a list of so many moves leads
abbrev pub ReachedNamesAreRunTo : Naming → Type 0
ReachedNamesAreRunTo naming = (kind : BoundKind) (g : GameRules) (rule : ℕ) (p : Board) (x : List ℕ) (cost : ℕ)
    → IsNaming naming g p → IsPositionOf g p → IsReached (classes naming kind g rule p) x cost
    → (ms : List Move) × (b : Board) × (length ms ≡ cost) × Run g p ms b × SameClass b (naming.spelled x)

-- a search of the classes of a game answers what lists of moves from a position of the game can do
abbrev pub ClassesAreLawful : Naming → Type 0
ClassesAreLawful naming = (kind : BoundKind) (g : GameRules) (rule : ℕ) (p : Board) → IsNaming naming g p → IsPositionOf g p
    → IsLawful (classes naming kind g rule p)
