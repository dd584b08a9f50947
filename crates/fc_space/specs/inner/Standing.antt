-- Where a walk stands, within the crate.
use Rattle.std.specs.Prelude.{◌≢◌, ℕ, ◌+◌, Option, IfSome}
use Rattle.fc_cards.specs.declared.places.Place.{Place}
use Rattle.fc_cards.specs.declared.places.Place.TheVariants.{Home}
use Rattle.fc_position.specs.Board.{Board, board_without}
use Rattle.fc_moves.specs.declared.steps.Move.{Move}
use Rattle.fc_moves.specs.GameRules.{GameRules}
use Rattle.fc_moves.specs.Step.{Allows, Step}
use Rattle.fc_home.specs.Settles.{Settles}
use Rattle.fc_bound.specs.declared.kinds.BoundKind.{BoundKind}
use Rattle.fc_bound.specs.declared.rings.Shown.{Shown}
use Rattle.fc_bound.specs.Kinds.{IsShown}
use Rattle.fc_bound.specs.Landings.{IsLanding}
use Rattle.fc_space.specs.declared.child_walks.Standing.{Standing}
use Rattle.fc_space.specs.declared.child_walks.Standing.TheVariants.{Here, Shifted, Settled}
use Rattle.fc_space.specs.Children.{Frame, IsChildOf}

-- a move takes no card home, and none goes home after it
abbrev pub StaysSettled : ℕ → GameRules → Board → Move → Type 0
StaysSettled rule g b m = (m.to ≢ Home) × ((z : Board) → Step g b m z → Settles g rule z 0 z)

-- what is known of where a walk stands, from a board on
abbrev pub IsStanding : Frame → Board → Standing → Type 0
IsStanding w b Here = Unit {0}
IsStanding w b (Shifted l) = Allows w.game b l.m × StaysSettled w.rule w.game b l.m × IsLanding b l
IsStanding w b (Settled m code count) = IsChildOf w b m (record { key = code; cost = 1 + count })

-- what is kept of a card that was lifted from a place is shown of the board without it
abbrev pub IsKept : BoundKind → Board → Option (Place × Shown) → Type 0
IsKept kind b kept = IfSome kept (λ k. IsShown kind (board_without b k.0) k.1.number k.1.note)
