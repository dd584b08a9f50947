-- The bounds of each kind are lower bounds.
use Rattle.std.proofs.Common.{arith}
use Rattle.fc_bound.specs.declared.kinds.BoundKind.TheVariants.{Plain, Clearing}
use Rattle.fc_bound.specs.Laws.{TheBoundsAreLowerBounds, GuidesAreNoGreater}
use Rattle.fc_bound.proofs.ClearingOrders.{class_clearing}
use Rattle.fc_bound.proofs.ClearingSteps.{wins_clear}
use Rattle.fc_bound.proofs.HeldLemmas.{class_bound, wins_need}
use Rattle.fc_bound.proofs.KnotClass.{class_knots}
use Rattle.fc_bound.proofs.KnotLemmas.{knots_no_greater}

pub bounds_lower : TheBoundsAreLowerBounds
bounds_lower Plain =
    (record { needed = wins_need; alike = class_bound }, record { needed = wins_need; alike = class_bound })
bounds_lower Clearing = (
  record {
    needed = λ g b ms p wins.
        let under = knots_no_greater b p in
        let need = wins_clear g b ms p wins in
        omega (arith, under, need);
    alike = class_knots;
  },
  record { needed = wins_clear; alike = class_clearing },
)

pub guides_under : GuidesAreNoGreater
guides_under Plain b p = omega arith
guides_under Clearing b p = knots_no_greater b p
