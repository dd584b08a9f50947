use Rattle.std.proofs.Common.{◌≡◌, ◌≤◌, sym, subst}
use Rattle.fc_bound.specs.Kinds.{guide_of, low_of}
use Rattle.fc_checker.proofs.FarLemmas.{cell_after, told_after}
use Rattle.fc_checker.proofs.record_steps.plain_after.Goals as goal

pub returns-in-None-Clearing-Cell-clause-lower : goal.returns-in-None-Clearing-Cell-clause-lower
returns-in-None-Clearing-Cell-clause-lower c = λ g y step away.
    let x = c.args.position.now in
    let kind = c.in-None-Clearing-Cell.is-1 in
    let guide = subst (λ k. c.args.guide ≡ guide_of k x) kind c.requires.guide in
    subst (λ k. c.args.guide ≤ low_of k y) (sym kind)
    (cell_after g x y c.args.m c.in-None-Clearing-Cell.field-0-2 c.args.guide c.guide_after-told.ensures.whole guide c.in-None-Clearing-Cell.is-2 away step)

pub returns-in_default-3-clause-lower : goal.returns-in_default-3-clause-lower
returns-in_default-3-clause-lower c =
    told_after c.args.kind c.args.position.now c.args.m c.guide_after-told.result c.guide_after-told.ensures.whole c.guide_after-told.ensures.value
