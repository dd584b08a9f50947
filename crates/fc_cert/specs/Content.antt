-- What a certificate contains, and how it is written.
use Rattle.std.specs.Prelude.{◌≡◌, ◌≢◌, ℕ, ◌<◌, ◌≤◌, ◌^◌, List, [], ◌∷◌, ◌++◌, length, All}
use Rattle.std.specs.Int.{w32, to_be_bytes}
use Rattle.std.specs.List.{flat_map}
use Rattle.fc_moves.specs.declared.steps.Move.{Move}
use Rattle.fc_moves.specs.MoveText.{move_text, HasText}
use Rattle.fc_canonical.specs.Spelled.{IsKeyFor}
use Rattle.fc_home.specs.declared.settling.TheConstants.{GREATEST_RULE}
use Rattle.fc_bound.specs.declared.kinds.BoundKind.{BoundKind}
use Rattle.fc_bound.specs.declared.kinds.BoundKind.TheVariants.{Plain, Clearing}
use Rattle.fc_answers.specs.Table.{IsRising}
use Rattle.fc_cert.specs.declared.contents.Form.{Form}
use Rattle.fc_cert.specs.declared.contents.Form.TheVariants.{First, Second, Third}
use Rattle.fc_cert.specs.declared.contents.Head.{Head}
use Rattle.fc_cert.specs.declared.contents.Kind.{Kind}
use Rattle.fc_cert.specs.declared.contents.Kind.TheVariants.{Shortest, CannotWin, Between}

-- what a certificate contains: its head, a list of moves, and rows of a class's key and a cost
pub record Content : Type 0 where
  pub head : Head
  pub moves : List Move
  pub rows : List (List ℕ × ℕ)

-- a number of four bytes, the highest first
abbrev pub four_bytes : ℕ → List ℕ
four_bytes n = to_be_bytes w32 n

-- `FCC1`, `FCC2` or `FCC3`
abbrev pub magic : Form → List ℕ
magic First = 70 ∷ 67 ∷ 67 ∷ 49 ∷ []
magic Second = 70 ∷ 67 ∷ 67 ∷ 50 ∷ []
magic Third = 70 ∷ 67 ∷ 67 ∷ 51 ∷ []

-- the second form and the third name their game: a byte for the code and one for the number of cells
abbrev pub game_bytes : Form → ℕ → ℕ → List ℕ
game_bytes First game cells = []
game_bytes Second game cells = game ∷ cells ∷ []
game_bytes Third game cells = game ∷ cells ∷ []

-- the plain bound is 0, the clearing bound 1
abbrev pub bound_byte : BoundKind → ℕ
bound_byte Plain = 0
bound_byte Clearing = 1

-- the third form names its bound
abbrev pub bound_bytes : Form → BoundKind → List ℕ
bound_bytes First bound = []
bound_bytes Second bound = []
bound_bytes Third bound = bound_byte bound ∷ []

-- a certificate of a shortest list is of kind 1, one that no list wins of kind 2, one of a list and a floor of kind 3
abbrev pub kind_byte : Kind → ℕ
kind_byte Shortest = 1
kind_byte CannotWin = 2
kind_byte Between = 3

-- kind 3 names its floor
abbrev pub floor_bytes : Kind → ℕ → List ℕ
floor_bytes Shortest floor = []
floor_bytes CannotWin floor = []
floor_bytes Between floor = four_bytes floor

-- the fields before the moves, one after the other
abbrev pub head_bytes : Head → List ℕ
head_bytes h = magic h.form ++ game_bytes h.form h.game h.cells
    ++ h.rule ∷ (bound_bytes h.form h.bound ++ kind_byte h.kind ∷ floor_bytes h.kind h.floor)

-- how many moves, and the text of each
abbrev pub listed_bytes : List Move → List ℕ
listed_bytes moves = four_bytes (length moves) ++ flat_map move_text moves

-- kinds 1 and 3 list moves
abbrev pub moves_bytes : Kind → List Move → List ℕ
moves_bytes Shortest moves = listed_bytes moves
moves_bytes CannotWin moves = []
moves_bytes Between moves = listed_bytes moves

-- a record is the cost of a class and its key
abbrev pub record_bytes : List ℕ × ℕ → List ℕ
record_bytes row = four_bytes row.1 ++ row.0

-- how many records there are, and the records
abbrev pub rows_bytes : List (List ℕ × ℕ) → List ℕ
rows_bytes rows = four_bytes (length rows) ++ flat_map record_bytes rows

-- all the bytes of a certificate
abbrev pub bytes_of : Content → List ℕ
bytes_of c = head_bytes c.head ++ (moves_bytes c.head.kind c.moves ++ rows_bytes c.rows)

-- the code of a game, its cells and a home rule may stand in this form: the first is of code 0, four cells and home rule
-- 0 or 1, the others of any code, at most four cells and any home rule
abbrev pub MayName : Form → ℕ → ℕ → ℕ → Type 0
MayName First game cells rule = (game ≡ 0) × (cells ≡ 4) × (rule ≤ 1)
MayName Second game cells rule = (game < 256) × (cells ≤ 4) × (rule ≤ GREATEST_RULE)
MayName Third game cells rule = (game < 256) × (cells ≤ 4) × (rule ≤ GREATEST_RULE)

-- the bound that the classes of this form may be closed by: of the first two the plain bound alone
abbrev pub MayBind : Form → BoundKind → Type 0
MayBind First bound = bound ≡ Plain
MayBind Second bound = bound ≡ Plain
MayBind Third bound = Unit {0}

-- the kinds of this form: kind 3 is the third form's alone
abbrev pub MayClaim : Form → Kind → Type 0
MayClaim First kind = kind ≢ Between
MayClaim Second kind = kind ≢ Between
MayClaim Third kind = Unit {0}

-- the floor that may stand before the moves: of kind 3 one that is no greater than their number, of the others none
abbrev pub MayFloor : Kind → ℕ → List Move → Type 0
MayFloor Shortest floor moves = floor ≡ 0
MayFloor CannotWin floor moves = floor ≡ 0
MayFloor Between floor moves = floor ≤ length moves

-- the moves may stand in a certificate of this kind: each has a text, and kind 2 has none
abbrev pub MayList : Kind → List Move → Type 0
MayList Shortest moves = (length moves < 2 ^ 32) × All HasText moves
MayList CannotWin moves = moves ≡ []
MayList Between moves = (length moves < 2 ^ 32) × All HasText moves

-- a cost that may stand in a certificate of this kind: in kind 2 it is 0
abbrev pub MayCost : Kind → ℕ → Type 0
MayCost Shortest cost = cost < 2 ^ 32
MayCost CannotWin cost = cost ≡ 0
MayCost Between cost = cost < 2 ^ 32

-- a record of a game with so many cells: a key of it, and a cost
pub record IsRecord (cells : ℕ) (kind : Kind) (row : List ℕ × ℕ) : Type 0 where
  pub key : IsKeyFor cells row.0
  pub cost : MayCost kind row.1

-- the contents that have bytes: each field may stand where it stands, and the records rise by their keys
pub record IsContent (c : Content) : Type 0 where
  pub head : MayName c.head.form c.head.game c.head.cells c.head.rule
  pub bound : MayBind c.head.form c.head.bound
  pub kind : MayClaim c.head.form c.head.kind
  pub floor : MayFloor c.head.kind c.head.floor c.moves
  pub moves : MayList c.head.kind c.moves
  pub count : length c.rows < 2 ^ 32
  pub rows : All (IsRecord c.head.cells c.head.kind) c.rows
  pub rising : IsRising c.rows

-- the bytes are a certificate with this content
pub record IsSpelled (bytes : List ℕ) (c : Content) : Type 0 where
  pub content : IsContent c
  pub written : bytes ≡ bytes_of c
