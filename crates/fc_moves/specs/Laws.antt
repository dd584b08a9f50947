-- What the laws of this crate state.
use Rattle.std.specs.Prelude.{◌≡◌, ℕ, ◌↔◌, List}
use Rattle.fc_position.specs.Board.{Board, IsHome}
use Rattle.fc_position.specs.Position.{IsPosition}
use Rattle.fc_moves.specs.declared.steps.Move.{Move}
use Rattle.fc_moves.specs.Class.{SameClass}
use Rattle.fc_moves.specs.GameRules.{GameRules, IsPositionOf}
use Rattle.fc_moves.specs.MoveText.{HasText, move_text}
use Rattle.fc_moves.specs.Run.{Run, WinsIn}
use Rattle.fc_moves.specs.Step.{Step, Allows}

-- a step from a position of the game leads to a position of the game
abbrev pub StepsKeepPositions : Type 0
StepsKeepPositions = (g : GameRules) (b c : Board) (m : Move) → IsPositionOf g b → Step g b m c → IsPositionOf g c

-- a card that is home stays home
abbrev pub HomeStaysHome : Type 0
HomeStaysHome = (g : GameRules) (b c : Board) (m : Move) (u : ℕ) → Step g b m c → IsHome b.homes u → IsHome c.homes u

-- a run from a position of the game leads to a position of the game
abbrev pub RunsKeepPositions : Type 0
RunsKeepPositions = (g : GameRules) (b c : Board) (ms : List Move) → IsPositionOf g b → Run g b ms c → IsPositionOf g c

-- an allowed move from a position has a text
abbrev pub AllowedMovesHaveTexts : Type 0
AllowedMovesHaveTexts = (g : GameRules) (b : Board) (m : Move) → IsPosition b → Allows g b m → HasText m

-- a move leads from a board to one board at most
abbrev pub MovesLeadToOneBoard : Type 0
MovesLeadToOneBoard = (g : GameRules) (b c d : Board) (m : Move) → Step g b m c → Step g b m d → c ≡ d

-- a list of moves leads from a board to one board at most
abbrev pub ListsLeadToOneBoard : Type 0
ListsLeadToOneBoard = (g : GameRules) (b c d : Board) (ms : List Move) → Run g b ms c → Run g b ms d → c ≡ d

-- no text is of two moves
abbrev pub TextsTellMovesApart : Type 0
TextsTellMovesApart = (m n : Move) → HasText m → HasText n → move_text m ≡ move_text n → m ≡ n

-- a board is of its own class, and to be of one class may be turned round and joined
abbrev pub ClassesAreEquivalences : Type 0
ClassesAreEquivalences =
    ((b : Board) → SameClass b b) × ((b c : Board) → SameClass b c → SameClass c b)
    × ((b c d : Board) → SameClass b c → SameClass c d → SameClass b d)

-- a board of a position's class is a position
abbrev pub ClassMatesArePositions : Type 0
ClassMatesArePositions = (b c : Board) → IsPosition b → SameClass b c → IsPosition c

-- two positions of the game that are of one class step to positions of the same classes
abbrev pub ClassMatesStepAlike : Type 0
ClassMatesStepAlike = (g : GameRules) (b c x : Board) (m : Move) → IsPositionOf g b → IsPositionOf g c → SameClass b c
    → Step g b m x → (n : Move) × (y : Board) × Step g c n y × SameClass x y

-- some list of so many moves wins from the one of two class-mates of the game exactly where one wins from the other
abbrev pub ClassMatesWinAlike : Type 0
ClassMatesWinAlike = (g : GameRules) (b c : Board) (count : ℕ) → IsPositionOf g b → IsPositionOf g c → SameClass b c
    → WinsIn g b count ↔ WinsIn g c count
