use Rattle.std.proofs.Common.{sym, ◌∙◌, subst, arith}
use Rattle.fc_cards.specs.declared.places.Place.TheVariants.{Column}
use Rattle.fc_bound.specs.Kinds.{IsShown}
use Rattle.fc_bound.proofs.FamilyMoved.{land_free, land_held, small_lifted}
use Rattle.fc_bound.proofs.LeftLemmas.{ends_at}
use Rattle.fc_bound.proofs.kinds.BoundKind.with_last.Goals as goal

pub overflow_add-result : goal.overflow_add-result
overflow_add-result c =
    let b = c.args.position.now in
    let kept = c.args.kept in
    let e = ends_at b.columns c.args.card c.requires.last in
    omega (arith, small_lifted c.args.self b (Column e.place) kept.number kept.note c.is_held.ensures.whole (c.requires.kept e.place e.last))

pub returns-then-is_held-clause-shown : goal.returns-then-is_held-clause-shown
returns-then-is_held-clause-shown c =
    let b = c.args.position.now in
    let kept = c.args.kept in
    let e = ends_at b.columns c.args.card c.requires.last in
    land_held c.args.self b e.place c.args.card kept.number kept.note c.is_held.ensures.whole e.last
    (sym c.is_held.ensures.value ∙ c.if-is_held.true) (c.requires.kept e.place e.last)

pub with-requires-clause-kept : goal.with-requires-clause-kept
with-requires-clause-kept c =
    let b = c.args.position.now in
    let kept = c.args.kept in
    let e = ends_at b.columns c.args.card c.requires.last in
    subst (λ k. IsShown k b kept.number kept.note) c.in-Clearing.is
    (land_free c.args.self b e.place c.args.card kept.number kept.note c.is_held.ensures.whole e.last
    (sym c.is_held.ensures.value ∙ c.if-is_held.false) (c.requires.kept e.place e.last))

pub returns-in-Plain-clause-shown : goal.returns-in-Plain-clause-shown
returns-in-Plain-clause-shown c =
    let b = c.args.position.now in
    let kept = c.args.kept in
    let e = ends_at b.columns c.args.card c.requires.last in
    land_free c.args.self b e.place c.args.card kept.number kept.note c.is_held.ensures.whole e.last
    (sym c.is_held.ensures.value ∙ c.if-is_held.false) (c.requires.kept e.place e.last)
