use Rattle.std.proofs.Common.{◌≡◌, sym, subst}
use Rattle.std.specs.Prelude.{IfSome}
use Rattle.fc_cards.specs.declared.places.Place.TheVariants.{Home}
use Rattle.fc_position.specs.Board.{Board}
use Rattle.fc_moves.specs.GameRules.{GameRules}
use Rattle.fc_moves.specs.Step.{Step}
use Rattle.fc_bound.specs.Kinds.{guide_of}
use Rattle.fc_bound.proofs.kinds.BoundKind.guide_after.Goals as goal

pub returns-in-Plain-clause-value : goal.returns-in-Plain-clause-value
returns-in-Plain-clause-value c =
    subst (λ k. IfSome c.bound_after.result (λ after. (g : GameRules) (z : Board) → Step g c.args.position.now c.args.m z → (c.args.m.to ≡ Home → ⊥) → after ≡ guide_of k z))
    (sym c.in-Plain.is) c.bound_after.ensures.value

pub returns-in-Clearing-clause-value : goal.returns-in-Clearing-clause-value
returns-in-Clearing-clause-value c =
    subst (λ k. IfSome c.knots_after.result (λ after. (g : GameRules) (z : Board) → Step g c.args.position.now c.args.m z → (c.args.m.to ≡ Home → ⊥) → after ≡ guide_of k z))
    (sym c.in-Clearing.is) c.knots_after.ensures.value
