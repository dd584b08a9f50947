-- What the laws of this crate state.
use Rattle.std.specs.Prelude.{◌≡◌, ℕ, ◌*◌, ◌/◌, ◌+◌, ◌<◌, ◌↔◌, List, slice_set}
use Rattle.fc_cards.specs.Card.{suit}
use Rattle.fc_position.specs.Board.{Board}
use Rattle.fc_position.specs.Position.{IsPosition}
use Rattle.fc_moves.specs.declared.steps.Move.{Move}
use Rattle.fc_moves.specs.Class.{SameClass}
use Rattle.fc_moves.specs.GameRules.{GameRules, IsGame, IsPositionOf, Stands}
use Rattle.fc_moves.specs.Run.{Run}
use Rattle.fc_canonical.specs.Order.{IsCanonical}
use Rattle.fc_codes.specs.Moved.{Moves}
use Rattle.fc_codes.specs.State.{IsStateOf, IsCodeOf}
use Rattle.fc_codes.specs.Spelled.{board_of_code}

-- the position at the start has a code
abbrev pub StartsHaveCodes : Type 0
StartsHaveCodes = (s : Board) → IsPosition s → (code : List ℕ) × IsCodeOf s s code

-- a move changes the state of the card that moves, and no other: by the card's new state, the board after it has a code
abbrev pub MovesChangeOneState : Type 0
MovesChangeOneState = (s b c : Board) (m : Move) (code : List ℕ) (card : ℕ) → IsPosition s → Moves s code card b m c
    → (n : ℕ) × IsStateOf s c card n × IsCodeOf s c (slice_set code card n)

-- each board that a list of moves leads to has a code
abbrev pub RunsKeepCodes : Type 0
RunsKeepCodes = (g : GameRules) (s b : Board) (ms : List Move) → IsGame g → IsPositionOf g s → Run g s ms b
    → (code : List ℕ) × IsCodeOf s b code

-- a position has one code at most
abbrev pub CodesAreOne : Type 0
CodesAreOne = (s b : Board) (k l : List ℕ) → IsPosition b → IsCodeOf s b k → IsCodeOf s b l → k ≡ l

-- two codes are the same exactly where they are of positions of one class
abbrev pub CodesTellClasses : Type 0
CodesTellClasses = (s b c : Board) (k l : List ℕ) → IsPosition s → IsPosition b → IsPosition c → IsCodeOf s b k
    → IsCodeOf s c l → (k ≡ l) ↔ SameClass b c

-- a position's code spells the canonical board of its class, which is a position, and has the same code
abbrev pub CodesSpellBoards : Type 0
CodesSpellBoards = (s b : Board) (code : List ℕ) → IsPosition s → IsPosition b → IsCodeOf s b code
    → SameClass b (board_of_code s code) × IsCanonical (board_of_code s code) × IsPosition (board_of_code s code)
    × IsCodeOf s (board_of_code s code) code

-- and a position of the game, where any board with the code is one
abbrev pub CodesSpellBoardsOfGames : Type 0
CodesSpellBoardsOfGames = (g : GameRules) (s b : Board) (code : List ℕ) → IsPosition s → IsPositionOf g b
    → IsCodeOf s b code → IsPositionOf g (board_of_code s code)

-- a card may stand on four cards at most, those one rank higher, which their suits tell apart
abbrev pub SuitsTellWhatIsStoodOn : Type 0
SuitsTellWhatIsStoodOn = (g : GameRules) (u l : ℕ) → IsGame g → Stands g u l → (suit l < 4) × (l ≡ u / 4 * 4 + (4 + suit l))
