-- Tables of classes and costs, and when such a table is a proof that no winning list is short, or that there is none.
use Rattle.std.specs.Prelude.{◌≡◌, ℕ, ◌+◌, ◌-◌, ◌<◌, ◌≤◌, ◌⊎◌, List, map, Option, Some, Contains}
use Rattle.fc_position.specs.Board.{Board}
use Rattle.fc_position.specs.Position.{IsWon}
use Rattle.fc_moves.specs.declared.steps.Move.{Move}
use Rattle.fc_moves.specs.GameRules.{GameRules, IsPositionOf}
use Rattle.fc_moves.specs.Run.{WinsWithin}
use Rattle.fc_moves.specs.Step.{Step}
use Rattle.fc_moves.specs.Class.{SameClass}
use Rattle.fc_canonical.specs.Spelled.{board_of_bytes}
use Rattle.fc_home.specs.Settles.{Settles}

-- a table is a list of pairs: a board, which stands for its class, and a cost, in moves from the start; what is said here
-- of a table holds as well where a class is listed twice
abbrev pub Table : Type 0
Table = List (Board × ℕ)

-- the table lists the class of the board, at any cost
abbrev pub ListsClass : Table → Board → Type 0
ListsClass T x = (e : Board × ℕ) × Contains T e × SameClass x e.0

-- the table lists the class of the board at a cost of at most d
abbrev pub Lists : Table → Board → ℕ → Type 0
Lists T x d = (e : Board × ℕ) × Contains T e × SameClass x e.0 × (e.1 ≤ d)

-- a board that d moves lead to is covered: its bound leaves no list of fewer than n moves through it, or it is listed
abbrev pub IsCoveredBelow : (Board → ℕ) → ℕ → Table → Board → ℕ → Type 0
IsCoveredBelow low n T x d = (n ≤ d + low x) ⊎ Lists T x d

-- of a board that d moves lead to: where each of its steps leads, once settled, is covered in this sense
abbrev pub StepsCovered : (Board → ℕ → Type 0) → GameRules → ℕ → Board → ℕ → Type 0
StepsCovered IsCovered g rule x d =
    (m : Move) (y z : Board) (k : ℕ) → Step g x m y → Settles g rule y k z → IsCovered z (d + 1 + k)

-- where each step of the board leads, once settled, is listed
abbrev pub StepsListed : GameRules → ℕ → Table → Board → Type 0
StepsListed g rule T x = (m : Move) (y z : Board) (k : ℕ) → Step g x m y → Settles g rule y k z → ListsClass T z

-- no listed board is won; the start, once settled, is covered; and from every position of a listed class, unless its cost
-- and its bound reach n, the steps are covered
pub record IsClosedBelow (low : Board → ℕ) (g : GameRules) (rule : ℕ) (p : Board) (n : ℕ) (T : Table) : Type 0 where
  pub not_won : (e : Board × ℕ) → Contains T e → IsWon e.0 → ⊥
  pub start : (q : Board) (k : ℕ) → Settles g rule p k q → IsCoveredBelow low n T q k
  pub steps : (e : Board × ℕ) (x : Board) → Contains T e → IsPositionOf g x → SameClass x e.0 → e.1 + low x < n
      → StepsCovered (IsCoveredBelow low n T) g rule x e.1

-- the same while a search runs: a won class may be listed where its cost and its bound reach n
pub record IsClosedInside (low : Board → ℕ) (g : GameRules) (rule : ℕ) (p : Board) (n : ℕ) (T : Table) : Type 0 where
  pub not_won : (e : Board × ℕ) → Contains T e → e.1 + low e.0 < n → IsWon e.0 → ⊥
  pub start : (q : Board) (k : ℕ) → Settles g rule p k q → IsCoveredBelow low n T q k
  pub steps : (e : Board × ℕ) (x : Board) → Contains T e → IsPositionOf g x → SameClass x e.0 → e.1 + low x < n
      → StepsCovered (IsCoveredBelow low n T) g rule x e.1

-- no listed board is won; the start, once settled, is listed; and so is all that steps from positions of listed classes
-- lead to, once settled: the costs don't matter
pub record IsClosed (g : GameRules) (rule : ℕ) (p : Board) (T : Table) : Type 0 where
  pub not_won : (e : Board × ℕ) → Contains T e → IsWon e.0 → ⊥
  pub start : (q : Board) (k : ℕ) → Settles g rule p k q → ListsClass T q
  pub steps : (e : Board × ℕ) (x : Board) → Contains T e → IsPositionOf g x → SameClass x e.0 → StepsListed g rule T x

-- any way of settling at all, which tells of a board in how many moves it settles and to which board, if it settles
abbrev pub SettlesTo : (Board → Option (ℕ × Board)) → Board → ℕ → Board → Type 0
SettlesTo settle b k q = settle b ≡ Some (k, q)

-- by it every position of the game settles
abbrev pub SettlesEach : (Board → Option (ℕ × Board)) → GameRules → Type 0
SettlesEach settle g = (b : Board) → IsPositionOf g b → (k : ℕ) × (q : Board) × SettlesTo settle b k q

-- it leads from positions of the game to positions of the game, and loses nothing: where a list of at most so many moves
-- wins, the settling moves are no more, and a list of at most the others wins from the settled position
pub record IsLossless (settle : Board → Option (ℕ × Board)) (g : GameRules) : Type 0 where
  pub keeps : (b q : Board) (k : ℕ) → IsPositionOf g b → SettlesTo settle b k q → IsPositionOf g q
  pub loses_nothing : (b q : Board) (k most : ℕ) → IsPositionOf g b → SettlesTo settle b k q → WinsWithin g b most
      → (k ≤ most) × WinsWithin g q (most - k)

-- closed, with such a way of settling in place of a home rule
pub record IsClosedBy (settle : Board → Option (ℕ × Board)) (g : GameRules) (p : Board) (T : Table) : Type 0 where
  pub not_won : (e : Board × ℕ) → Contains T e → IsWon e.0 → ⊥
  pub start : (q : Board) (k : ℕ) → SettlesTo settle p k q → ListsClass T q
  pub steps : (e : Board × ℕ) (x : Board) → Contains T e → IsPositionOf g x → SameClass x e.0
      → (m : Move) (y z : Board) (k : ℕ) → Step g x m y → SettlesTo settle y k z → ListsClass T z

-- a listed board is a position of the game wherever any board of its class is one
abbrev pub ListsFitting : GameRules → Table → Type 0
ListsFitting g T = (e : Board × ℕ) (x : Board) → Contains T e → IsPositionOf g x → SameClass x e.0 → IsPositionOf g e.0

-- of a board that d moves lead to: of each class that its steps lead to, one board that a step leads to is covered in this
-- sense, once settled
abbrev pub ClassesCovered : (Board → ℕ → Type 0) → GameRules → ℕ → Board → ℕ → Type 0
ClassesCovered IsCovered g rule x d = (m : Move) (y : Board) → Step g x m y
    → (l : Move) × (w z : Board) × (k : ℕ) × Step g x l w × SameClass y w × Settles g rule w k z × IsCovered z (d + 1 + k)

-- of each class that the board's steps lead to, one board that a step leads to is listed, once settled
abbrev pub ClassesListed : GameRules → ℕ → Table → Board → Type 0
ClassesListed g rule T x = (m : Move) (y : Board) → Step g x m y
    → (l : Move) × (w z : Board) × (k : ℕ) × Step g x l w × SameClass y w × Settles g rule w k z × ListsClass T z

-- what is looked at to see that a table is closed below n: the listed boards alone, and one step to each class
pub record IsSeenClosedBelow (low : Board → ℕ) (g : GameRules) (rule : ℕ) (p : Board) (n : ℕ) (T : Table) : Type 0 where
  pub not_won : (e : Board × ℕ) → Contains T e → IsWon e.0 → ⊥
  pub start : (q : Board) × (k : ℕ) × Settles g rule p k q × IsCoveredBelow low n T q k
  pub steps : (e : Board × ℕ) → Contains T e → IsPositionOf g e.0 → e.1 + low e.0 < n → ClassesCovered (IsCoveredBelow low n T) g rule e.0 e.1

-- what is looked at to see that a table is closed
pub record IsSeenClosed (g : GameRules) (rule : ℕ) (p : Board) (T : Table) : Type 0 where
  pub not_won : (e : Board × ℕ) → Contains T e → IsWon e.0 → ⊥
  pub start : (q : Board) × (k : ℕ) × Settles g rule p k q × ListsClass T q
  pub steps : (e : Board × ℕ) → Contains T e → IsPositionOf g e.0 → ClassesListed g rule T e.0

-- the boards that the keys of a table spell, at the same costs
abbrev pub as_boards : List (List ℕ × ℕ) → Table
as_boards table = map (λ e. (board_of_bytes e.0, e.1)) table
