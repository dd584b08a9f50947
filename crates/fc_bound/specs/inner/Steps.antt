-- Steps and the card that they take, within the crate.
use Rattle.std.specs.Prelude.{◌≡◌, ◌≢◌, ℕ, Bool}
use Rattle.fc_cards.specs.declared.places.Place.TheVariants.{Home}
use Rattle.fc_position.specs.Board.{Board}
use Rattle.fc_position.specs.Position.{IsPosition}
use Rattle.fc_moves.specs.declared.steps.Move.{Move}
use Rattle.fc_moves.specs.GameRules.{GameRules}
use Rattle.fc_moves.specs.Step.{Step}
use Rattle.fc_bound.specs.Bound.{is_held_back}

-- this holds of each position and where the move leads from it, if it takes this card, and whether that is held back where it is, and where
-- it goes but home, is told
abbrev pub OfEachStep : Move → ℕ → Bool → Bool → (Board → Board → Type 0) → Type 0
OfEachStep m card held there this = (g : GameRules) (b z : Board) (step : Step g b m z) → IsPosition b → step.card ≡ card
    → held ≡ is_held_back b card → (m.to ≢ Home → there ≡ is_held_back z card) → this b z
