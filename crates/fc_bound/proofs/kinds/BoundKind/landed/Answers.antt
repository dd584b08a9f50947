use Rattle.std.proofs.Common.{◌≡◌, ℕ, Some, None, sym, ◌∙◌, ap, subst}
use Rattle.fc_cards.specs.declared.places.Place.TheVariants.{Column}
use Rattle.fc_position.specs.Board.{column, last_of, board_without, playable}
use Rattle.fc_bound.specs.Kinds.{IsShown}
use Rattle.fc_bound.proofs.FamilyMoved.{cell_shown, none_shown, one_last, small, small_lifted}
use Rattle.fc_bound.proofs.kinds.BoundKind.landed.Goals as goal

pub with_last-requires-clause-kept : goal.with_last-requires-clause-kept
with_last-requires-clause-kept c j ends =
    let b = c.args.position.now in
    let i = c.in-Column-Some.field-0-0 in
    let last : last_of (column b i) ≡ Some c.index.result =
    ap (playable b) (sym c.in-Column-Some.is-0) ∙ sym c.playable.ensures.value ∙ c.in-Column-Some.is-1 ∙ ap (λ (n : ℕ). Some n) (sym c.index.ensures.value) in
    subst (λ k. IsShown c.args.self (board_without b (Column k)) c.args.kept.number c.args.kept.note)
    (one_last b i j c.index.result c.playable.ensures.whole last ends)
    (subst (λ to. IsShown c.args.self (board_without b to) c.args.kept.number c.args.kept.note) c.in-Column-Some.is-0 c.requires.kept)

pub returns-in-Column-Some-clause-most : goal.returns-in-Column-Some-clause-most
returns-in-Column-Some-clause-most c =
    small c.args.self c.args.position.now c.with_last.result.number c.with_last.result.note c.playable.ensures.whole c.with_last.ensures.shown

pub returns-in-Column-None-clause-shown : goal.returns-in-Column-None-clause-shown
returns-in-Column-None-clause-shown c =
    let b = c.args.position.now in
    let i = c.in-Column-None.field-0-0 in
    let none : last_of (column b i) ≡ None =
    ap (playable b) (sym c.in-Column-None.is-0) ∙ sym c.playable.ensures.value ∙ c.in-Column-None.is-1 in
    none_shown c.args.self b i c.args.kept.number c.args.kept.note none
    (subst (λ to. IsShown c.args.self (board_without b to) c.args.kept.number c.args.kept.note) c.in-Column-None.is-0 c.requires.kept)

pub returns-in-Column-None-clause-most : goal.returns-in-Column-None-clause-most
returns-in-Column-None-clause-most c =
    small_lifted c.args.self c.args.position.now c.args.to c.args.kept.number c.args.kept.note c.playable.ensures.whole c.requires.kept

pub returns-in-Cell-default-clause-shown : goal.returns-in-Cell-default-clause-shown
returns-in-Cell-default-clause-shown c =
    let b = c.args.position.now in
    cell_shown c.args.self b c.in-Cell-default.field-0-0 c.args.kept.number c.args.kept.note
    (subst (λ to. IsShown c.args.self (board_without b to) c.args.kept.number c.args.kept.note) c.in-Cell-default.is-0 c.requires.kept)

pub returns-in-Cell-default-clause-most : goal.returns-in-Cell-default-clause-most
returns-in-Cell-default-clause-most c =
    small_lifted c.args.self c.args.position.now c.args.to c.args.kept.number c.args.kept.note c.playable.ensures.whole c.requires.kept

pub returns-in-Home-default-clause-most : goal.returns-in-Home-default-clause-most
returns-in-Home-default-clause-most c =
    small_lifted c.args.self c.args.position.now c.args.to c.args.kept.number c.args.kept.note c.playable.ensures.whole c.requires.kept
