use Rattle.std.proofs.Common.{◌≡◌, ℕ, Some, None, sym, ◌∙◌, ap, subst}
use Rattle.fc_cards.specs.declared.places.Place.TheVariants.{Column}
use Rattle.fc_position.specs.Board.{column, last_of, board_without, playable}
use Rattle.fc_bound.specs.Kinds.{IsShown}
use Rattle.fc_bound.proofs.FamilyMoved.{shown_cell, shown_none, small, small_lifted}
use Rattle.fc_bound.proofs.kinds.BoundKind.lifted.Goals as goal

pub returns-in-Column-Some-clause-most : goal.returns-in-Column-Some-clause-most
returns-in-Column-Some-clause-most c =
    let b = c.args.position.now in
    let i = c.in-Column-Some.field-0-0 in
    let last : last_of (column b i) ≡ Some c.index.result =
    ap (playable b) (sym c.in-Column-Some.is-0) ∙ sym c.playable.ensures.value ∙ c.in-Column-Some.is-1 ∙ ap (λ (n : ℕ). Some n) (sym c.index.ensures.value) in
    small_lifted c.args.self b (Column i) c.without_last.result.number c.without_last.result.note c.playable.ensures.whole
    (c.without_last.ensures.shown i last)

pub returns-in-Column-None-clause-shown : goal.returns-in-Column-None-clause-shown
returns-in-Column-None-clause-shown c =
    let b = c.args.position.now in
    let i = c.in-Column-None.field-0-0 in
    let none : last_of (column b i) ≡ None =
    ap (playable b) (sym c.in-Column-None.is-0) ∙ sym c.playable.ensures.value ∙ c.in-Column-None.is-1 in
    subst (λ from. IsShown c.args.self (board_without b from) c.args.shown.number c.args.shown.note) (sym c.in-Column-None.is-0)
    (shown_none c.args.self b i c.args.shown.number c.args.shown.note none c.requires.shown)

pub returns-in-Column-None-clause-most : goal.returns-in-Column-None-clause-most
returns-in-Column-None-clause-most c =
    small c.args.self c.args.position.now c.args.shown.number c.args.shown.note c.playable.ensures.whole c.requires.shown

pub returns-in-Cell-default-clause-shown : goal.returns-in-Cell-default-clause-shown
returns-in-Cell-default-clause-shown c =
    let b = c.args.position.now in
    subst (λ from. IsShown c.args.self (board_without b from) c.args.shown.number c.args.shown.note) (sym c.in-Cell-default.is-0)
    (shown_cell c.args.self b c.in-Cell-default.field-0-0 c.args.shown.number c.args.shown.note c.requires.shown)

pub returns-in-Cell-default-clause-most : goal.returns-in-Cell-default-clause-most
returns-in-Cell-default-clause-most c =
    small c.args.self c.args.position.now c.args.shown.number c.args.shown.note c.playable.ensures.whole c.requires.shown

pub returns-in-Home-default-clause-most : goal.returns-in-Home-default-clause-most
returns-in-Home-default-clause-most c =
    small c.args.self c.args.position.now c.args.shown.number c.args.shown.note c.playable.ensures.whole c.requires.shown
