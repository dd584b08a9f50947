-- The children of a class: where the steps of its position lead, once settled, within the crate.
use Rattle.std.specs.Prelude.{◌≡◌, ◌≢◌, ℕ, ◌≤◌, Some, List, Contains}
use Rattle.fc_cards.specs.declared.places.Place.{Place}
use Rattle.fc_position.specs.Board.{Board, playable}
use Rattle.fc_moves.specs.declared.steps.Move.{Move}
use Rattle.fc_moves.specs.GameRules.{GameRules}
use Rattle.fc_moves.specs.Step.{Allows, Step}
use Rattle.fc_home.specs.HomeRule.{GoesHome}
use Rattle.fc_home.specs.Settles.{Settles}
use Rattle.fc_bound.specs.declared.kinds.BoundKind.{BoundKind}
use Rattle.fc_bound.specs.declared.rings.Shown.{Shown}
use Rattle.fc_bound.specs.Kinds.{IsShown}
use Rattle.fc_best_first.specs.Graph.{Graph}
use Rattle.fc_classes.specs.Namings.{by_codes}
use Rattle.fc_classes.specs.Classes.{classes}
use Rattle.fc_space.specs.Children.{Frame, ChildrenLeft}

-- no playable card goes home by the rule but perhaps that of one place
abbrev pub OthersStay : ℕ → GameRules → Board → Place → Type 0
OthersStay rule g b from = (other : Place) (c : ℕ) → other ≢ from → playable b other ≡ Some c → GoesHome rule g b.homes c → ⊥

-- the moves are allowed
abbrev pub AreAllowed : GameRules → Board → List Move → Type 0
AreAllowed g b moves = (m : Move) → Contains moves m → Allows g b m

-- the classes of a search as a graph
abbrev pub classes_in : Frame → Graph (List ℕ)
classes_in w = classes (by_codes w.start) w.kind w.game w.rule w.start

-- something is shown of the board that is no less than this
abbrev pub IsNoMore : BoundKind → Board → ℕ → Type 0
IsNoMore kind b least = (number : ℕ) × (note : ℕ) × IsShown kind b number note × (least ≤ number)

-- this is shown of where the move leads from the position of a walk
abbrev pub IsShownAfter : {G : Type 0} → (G → GameRules) → ChildrenLeft G → Move → Shown → Type 0
IsShownAfter game left m shown = (z : Board) → Step (game left.game) left.position m z → IsShown left.kind z shown.number shown.note

-- this holds of what the last move of a walk leads to, once settled
abbrev pub OfLastChild : {G : Type 0} → (G → GameRules) → ChildrenLeft G → (Board → Type 0) → Type 0
OfLastChild game left this = (m : Move) (z q : Board) (count : ℕ) → left.last ≡ Some m → Step (game left.game) left.position m z
    → Settles (game left.game) left.rule z count q → this q
