use Rattle.fc_bound.specs.declared.kinds.BoundKind.TheVariants.{Clearing}
use Rattle.fc_bound.proofs.FamilyMoved.{small}
use Rattle.fc_bound.proofs.kinds.BoundKind.shown.Goals as goal

pub returns-in-Plain-clause-most : goal.returns-in-Plain-clause-most
returns-in-Plain-clause-most c =
    small Clearing c.args.position.now c.plain.result.number c.plain.result.note c.plain.ensures.whole c.plain.ensures.shown

pub returns-in-Clearing-clause-most : goal.returns-in-Clearing-clause-most
returns-in-Clearing-clause-most c =
    small Clearing c.args.position.now c.counted.result.number c.counted.result.note c.counted.ensures.whole c.counted.ensures.shown
