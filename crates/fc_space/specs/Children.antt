-- The children of a class: where the steps of its position lead, once settled.
use Rattle.std.specs.Prelude.{◌≡◌, ℕ, ◌+◌, List, [], ◌∷◌, reverse, Option, None, Some}
use Rattle.fc_position.specs.Board.{Board}
use Rattle.fc_moves.specs.declared.steps.Move.{Move}
use Rattle.fc_moves.specs.GameRules.{GameRules}
use Rattle.fc_moves.specs.Step.{Step}
use Rattle.fc_codes.specs.State.{IsCodeOf}
use Rattle.fc_home.specs.Settles.{Settles}
use Rattle.fc_bound.specs.declared.kinds.BoundKind.{BoundKind}
use Rattle.fc_best_first.specs.declared.spaces.Child.{Child}
use Rattle.fc_space.specs.declared.class_space.ClassRules.{ClassRules}
use Rattle.fc_space.specs.declared.child_walks.Standing.{Standing}
use Rattle.fc_space.specs.declared.child_walks.Standing.TheVariants.{Here, Shifted, Settled}

-- what makes the classes of a search: the game, the home rule, the kind of bound, and the position at the start, as seen
-- from which codes name the classes
pub record Frame : Type 0 where
  pub game : GameRules
  pub rule : ℕ
  pub kind : BoundKind
  pub start : Board

-- the same of its four parts
abbrev pub frame_of : GameRules → ℕ → BoundKind → Board → Frame
frame_of g rule kind start = record { game = g; rule = rule; kind = kind; start = start }

-- the same of the rules of a search, and the position at the start
abbrev pub frame_by : {G : Type 0} → (G → GameRules) → ClassRules G → Board → Frame
frame_by game rules start = frame_of (game rules.game) rules.rule rules.kind start

-- the child is of what the board settles to, at a cost of so many moves and those of settling
abbrev pub IsSettledChild : Frame → Board → ℕ → Child (List ℕ) → Type 0
IsSettledChild w z moves child = (q : Board) × (count : ℕ) × Settles w.game w.rule z count q × IsCodeOf w.start q child.key
    × (child.cost ≡ moves + count)

-- the child is of where the move leads, once settled
abbrev pub IsChildOf : Frame → Board → Move → Child (List ℕ) → Type 0
IsChildOf w b m child = (z : Board) × Step w.game b m z × IsSettledChild w z 1 child

-- a walk stands at the code: it is that of the board itself, or of where the move leads that came last, once settled
abbrev pub StandsAt : Frame → Board → Option Move → List ℕ → Type 0
StandsAt w b None code = IsCodeOf w.start b code
StandsAt w b (Some m) code = (cost : ℕ) × IsChildOf w b m (record { key = code; cost = cost })

-- the move that led to where a walk stands, if one did
abbrev pub last_move : Standing → Option Move
last_move Here = None
last_move (Shifted landing) = Some landing.m
last_move (Settled m code count) = Some m

-- what is left of the children of a position of a game, seen from the position at the start: the moves that lead to them, the
-- next one last; and the move that led to the child that came last, if one did
pub record ChildrenLeft (G : Type 0) : Type 0 where
  pub game : G
  pub rule : ℕ
  pub kind : BoundKind
  pub start : Board
  pub position : Board
  pub moves : List Move
  pub last : Option Move

-- the classes that what is left is of
abbrev pub frame_left : {G : Type 0} → (G → GameRules) → ChildrenLeft G → Frame
frame_left game left = frame_of (game left.game) left.rule left.kind left.start

-- what is left is of these classes
abbrev pub IsWalkIn : {G : Type 0} → (G → GameRules) → Frame → ChildrenLeft G → Type 0
IsWalkIn game w left = frame_left game left ≡ w

-- the children are those to which the moves lead, one after the other
abbrev pub AreChildrenBy : Frame → Board → List Move → List (Child (List ℕ)) → Type 0
AreChildrenBy w b [] [] = Unit {0}
AreChildrenBy w b (m ∷ moves) (child ∷ children) = IsChildOf w b m child × AreChildrenBy w b moves children
AreChildrenBy w b [] (child ∷ children) = ⊥
AreChildrenBy w b (m ∷ moves) [] = ⊥

-- the children are those that are left
abbrev pub AreLeft : {G : Type 0} → (G → GameRules) → ChildrenLeft G → List (Child (List ℕ)) → Type 0
AreLeft game left children = AreChildrenBy (frame_left game left) left.position (reverse left.moves) children
