-- What a checker answers of bytes that are handed to it with a board: the claim that they prove, or their first fault.
use Rattle.std.specs.Prelude.{◌≡◌, ◌≢◌, ℕ, ◌+◌, ◌<◌, List, length, take, slice_get, Option, Some, None}
use Rattle.fc_position.specs.Board.{Board}
use Rattle.fc_position.specs.Position.{IsWon}
use Rattle.fc_moves.specs.declared.steps.Move.{Move}
use Rattle.fc_moves.specs.GameRules.{GameRules}
use Rattle.fc_moves.specs.Run.{Run, Wins}
use Rattle.fc_moves.specs.Step.{Allows}
use Rattle.fc_canonical.specs.Spelled.{board_of_bytes}
use Rattle.fc_home.specs.Settles.{Settles}
use Rattle.fc_bound.specs.Kinds.{low_of}
use Rattle.fc_tables.specs.Table.{IsCoveredBelow, ListsClass, StepsCovered, StepsListed, as_boards}
use Rattle.fc_cert.specs.declared.contents.Kind.{Kind}
use Rattle.fc_cert.specs.declared.contents.Kind.TheVariants.{Shortest, CannotWin, Between}
use Rattle.fc_cert.specs.Content.{Content, IsSpelled}
use Rattle.fc_cert.specs.Reading.{IsFormFault}
use Rattle.fc_checker.specs.declared.faults.CheckFault.{CheckFault}
use Rattle.fc_checker.specs.declared.faults.CheckFault.TheVariants.{Form, OtherGame, NotAllowed, NotHome, StartOpen, WonListed, Open, Memory}

-- the content is of the game: its code and its number of cells
pub record IsOfGame (g : GameRules) (c : Content) : Type 0 where
  pub code : c.head.game ≡ g.code
  pub cells : c.head.cells ≡ g.cells

-- what is asked of the moves: in kinds 1 and 3 they win from the board, in kind 2 there are none
abbrev pub MovesHold : GameRules → Board → Kind → List Move → Type 0
MovesHold g b Shortest moves = Wins g b moves
MovesHold g b CannotWin moves = Unit {0}
MovesHold g b Between moves = Wins g b moves

-- the level: the number of moves below which no list is to win; none where no list is to win at all
abbrev pub level_of : Kind → ℕ → List Move → Option ℕ
level_of Shortest floor moves = Some (length moves)
level_of CannotWin floor moves = None
level_of Between floor moves = Some floor

abbrev pub level : Content → Option ℕ
level c = level_of c.head.kind c.head.floor c.moves

-- what is asked of a board that d moves lead to: that it is covered below the level, by the bound that is named, and without
-- one that it is listed
abbrev pub Holds : Content → Option ℕ → Board → ℕ → Type 0
Holds c (Some n) x d = IsCoveredBelow (low_of c.head.bound) n (as_boards c.rows) x d
Holds c None x d = ListsClass (as_boards c.rows) x

-- what is asked of the start: what it settles to holds at as many moves
abbrev pub StartHolds : GameRules → Board → Content → Type 0
StartHolds g b c = (q : Board) (k : ℕ) → Settles g c.head.rule b k q → Holds c (level c) q k

-- what is asked of the steps from the board of a record: where its cost and bound are below the level, that they are covered,
-- and without one that they are listed
abbrev pub StepsHold : GameRules → Content → Option ℕ → List ℕ × ℕ → Type 0
StepsHold g c (Some n) row = row.1 + low_of c.head.bound (board_of_bytes row.0) < n
    → StepsCovered (IsCoveredBelow (low_of c.head.bound) n (as_boards c.rows)) g c.head.rule (board_of_bytes row.0) row.1
StepsHold g c None row = StepsListed g c.head.rule (as_boards c.rows) (board_of_bytes row.0)

-- what is asked of a record: its board isn't won, and its steps hold
pub record RecordHolds (g : GameRules) (c : Content) (row : List ℕ × ℕ) : Type 0 where
  pub not_won : IsWon (board_of_bytes row.0) → ⊥
  pub steps : StepsHold g c (level c) row

-- the first so many records hold
abbrev pub RecordsHold : GameRules → Content → ℕ → Type 0
RecordsHold g c n = (k : ℕ) (row : List ℕ × ℕ) → k < n → slice_get c.rows k ≡ Some row → RecordHolds g c row

-- the bytes have this content, which is of the game
pub record HasContent (g : GameRules) (bytes : List ℕ) (c : Content) : Type 0 where
  pub spelled : IsSpelled bytes c
  pub game : IsOfGame g c

-- and whose moves and start hold
pub record HasStart (g : GameRules) (b : Board) (bytes : List ℕ) (c : Content) : Type 0 where
  pub content : HasContent g bytes c
  pub moves : MovesHold g b c.head.kind c.moves
  pub start : StartHolds g b c

-- the step, counted from 1, is the first of the moves that isn't allowed
pub record IsStopped (g : GameRules) (b : Board) (moves : List Move) (step : ℕ) : Type 0 where
  pub before : ℕ
  pub number : step ≡ before + 1
  pub board : Board
  pub led : Run g b (take before moves) board
  pub next : Move
  pub there : slice_get moves before ≡ Some next
  pub refused : Allows g board next → ⊥

-- why bytes are refused, each fault only where those before it have no cause: they have no content; they are of another
-- game; a move isn't allowed; the moves don't win; the start doesn't hold; or a record's board is won, or its steps don't
-- hold, those before it holding. Memory is wanted only where they have a content that lists some class
abbrev pub IsCheckFault : GameRules → Board → List ℕ → CheckFault → Type 0
IsCheckFault g b bytes (Form fault) = IsFormFault bytes fault
IsCheckFault g b bytes OtherGame = (c : Content) × IsSpelled bytes c × (IsOfGame g c → ⊥)
IsCheckFault g b bytes (NotAllowed step) = (c : Content) × HasContent g bytes c × (c.head.kind ≢ CannotWin) × IsStopped g b c.moves step
IsCheckFault g b bytes NotHome = (c : Content) × HasContent g bytes c × (c.head.kind ≢ CannotWin)
    × ((x : Board) × Run g b c.moves x × (IsWon x → ⊥))
IsCheckFault g b bytes StartOpen = (c : Content) × HasContent g bytes c × MovesHold g b c.head.kind c.moves × (StartHolds g b c → ⊥)
IsCheckFault g b bytes (WonListed i) = (c : Content) × HasStart g b bytes c × RecordsHold g c i
    × ((row : List ℕ × ℕ) × (slice_get c.rows i ≡ Some row) × IsWon (board_of_bytes row.0))
IsCheckFault g b bytes (Open i) = (c : Content) × HasStart g b bytes c × RecordsHold g c i
    × ((row : List ℕ × ℕ) × (slice_get c.rows i ≡ Some row) × (IsWon (board_of_bytes row.0) → ⊥) × (StepsHold g c (level c) row → ⊥))
IsCheckFault g b bytes Memory = (c : Content) × IsSpelled bytes c × (0 < length c.rows)
