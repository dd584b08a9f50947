-- Names of classes, for searches that know a class by its name.
use Rattle.std.specs.Prelude.{◌≡◌, ℕ, ◌↔◌, List}
use Rattle.fc_position.specs.Board.{Board}
use Rattle.fc_position.specs.Position.{IsPosition}
use Rattle.fc_moves.specs.declared.steps.Move.{Move}
use Rattle.fc_moves.specs.Class.{SameClass}
use Rattle.fc_moves.specs.GameRules.{GameRules, IsPositionOf}
use Rattle.fc_moves.specs.Step.{Step}
use Rattle.fc_canonical.specs.Key.{IsKeyOf}
use Rattle.fc_canonical.specs.Order.{IsCanonical}
use Rattle.fc_canonical.specs.Spelled.{IsKeyIn, board_of_bytes}
use Rattle.fc_codes.specs.State.{IsCodeOf}
use Rattle.fc_codes.specs.Spelled.{board_of_code}

-- a naming of classes: which names a board has, the board that a name spells, and which names are of positions of a game
pub record Naming : Type 1 where
  pub names : Board → List ℕ → Type 0
  pub spelled : List ℕ → Board
  pub valid : GameRules → List ℕ → Type 0

-- the code spells a position of the game that has this code, where s is the board at the start
pub record IsCodeIn (s : Board) (g : GameRules) (code : List ℕ) : Type 0 where
  pub position : IsPositionOf g (board_of_code s code)
  pub coded : IsCodeOf s (board_of_code s code) code

-- classes named by their keys
abbrev pub by_keys : Naming
by_keys = record { names = IsKeyOf; spelled = board_of_bytes; valid = IsKeyIn }

-- classes named by their codes, as seen from the position at the start
abbrev pub by_codes : Board → Naming
by_codes s = record { names = IsCodeOf s; spelled = board_of_code s; valid = IsCodeIn s }

-- the name is valid in the game: it spells a canonical position of the game, and is a name of it
pub record IsName (naming : Naming) (g : GameRules) (x : List ℕ) : Type 0 where
  pub position : IsPositionOf g (naming.spelled x)
  pub ordered : IsCanonical (naming.spelled x)
  pub own : naming.names (naming.spelled x) x

-- the naming serves the classes from p in the game. A name of a position of the game is valid and spells a class-mate, and
-- valid names spell what they name; class-mates have the same names, and positions one name exactly where they are
-- class-mates; p has a name, and so has what a step leads to from a position that has one
pub record IsNaming (naming : Naming) (g : GameRules) (p : Board) : Type 0 where
  pub spells : (b : Board) (x : List ℕ) → IsPositionOf g b → naming.names b x → naming.valid g x × SameClass b (naming.spelled x)
  pub valid : (x : List ℕ) → naming.valid g x → IsName naming g x
  pub alike : (b c : Board) (x : List ℕ) → IsPosition b → SameClass b c → naming.names b x → naming.names c x
  pub tells : (b c : Board) (x y : List ℕ) → IsPosition b → IsPosition c → naming.names b x → naming.names c y
      → (x ≡ y) ↔ SameClass b c
  pub start : (x : List ℕ) × naming.names p x
  pub steps : (b c : Board) (m : Move) (x : List ℕ) → IsPositionOf g b → naming.names b x → Step g b m c
      → (y : List ℕ) × naming.names c y
