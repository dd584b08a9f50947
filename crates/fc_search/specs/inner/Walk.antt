-- The way from the start to a stored class, by the marks of the classes.
use Rattle.std.specs.Prelude.{◌≡◌, ◌≢◌, ℕ, ◌≤◌, List, [], ◌∷◌, length}
use Rattle.fc_position.specs.Board.{Board}
use Rattle.fc_moves.specs.declared.steps.Move.{Move}
use Rattle.fc_moves.specs.GameRules.{GameRules}
use Rattle.fc_moves.specs.Run.{Run}
use Rattle.fc_best_first.specs.declared.books.Mark.{Mark}
use Rattle.fc_best_first.specs.Store.{Store, IsStored}
use Rattle.fc_moves.specs.Class.{SameClass}
use Rattle.fc_codes.specs.Spelled.{board_of_code}
use Rattle.fc_space.specs.Children.{Frame, frame_of}
use Rattle.fc_search.specs.Problem.{Problem}

-- what makes the classes in which a problem is searched
abbrev pub frame_of_problem : Problem → Frame
frame_of_problem p = frame_of p.game p.method.rule p.method.bound p.start

-- the class with this number is its own parent: it starts
abbrev pub IsStart : Store (List ℕ) → ℕ → Type 0
IsStart s number = (x : List ℕ) × (mark : Mark) × IsStored s number x mark × (mark.parent ≡ number)

-- from the class with the one number each class of the list comes from the one before it, which is another one, and the
-- last has the other number
abbrev pub IsWay : Store (List ℕ) → ℕ → List ℕ → ℕ → Type 0
IsWay s number [] target = number ≡ target
IsWay s number (next ∷ rest) target =
    ((x : List ℕ) × (mark : Mark) × IsStored s next x mark × (mark.parent ≡ number) × (number ≢ next))
    × IsWay s next rest target

-- the moves lead from the one board to a board of the class with this number, and are no more than it costs
abbrev pub IsAtClass : GameRules → Store (List ℕ) → Board → ℕ → List Move → Board → Type 0
IsAtClass g s p number made b = (x : List ℕ) × (mark : Mark) × IsStored s number x mark × Run g p made b
    × SameClass b (board_of_code p x) × (length made ≤ mark.cost)
