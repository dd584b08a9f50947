use Rattle.std.proofs.Common.{◌≡◌, ℕ, cond, sym, ◌∙◌, ap, subst, arith}
use Rattle.fc_cards.specs.declared.places.Place.TheVariants.{Column}
use Rattle.fc_position.specs.Board.{board_without}
use Rattle.fc_bound.specs.declared.kinds.BoundKind.TheVariants.{Clearing}
use Rattle.fc_bound.specs.Bound.{is_held_back}
use Rattle.fc_bound.specs.Kinds.{IsShown}
use Rattle.fc_bound.proofs.FamilyMoved.{bound_lifted, lift_free, lift_held}
use Rattle.fc_bound.proofs.FamilyShown.{shown_least}
use Rattle.fc_bound.proofs.LeftLemmas.{ends_at}
use Rattle.fc_bound.proofs.kinds.BoundKind.without_last.Goals as goal

pub overflow_sub-result : goal.overflow_sub-result
overflow_sub-result c =
    let b = c.args.position.now in
    let e = ends_at b.columns c.args.card c.requires.last in
    let one : ◌≡◌ {A = ℕ} (cond (is_held_back b c.args.card) 1 0) 1 = ap (λ t. cond t 1 0) (sym c.is_held.ensures.value ∙ c.if-is_held.true) in
    omega (
      arith,
      shown_least c.args.self b c.args.shown.number c.args.shown.note c.requires.shown,
      bound_lifted b e.place c.args.card c.is_held.ensures.whole e.last,
      one,
    )

pub returns-then-is_held-clause-shown : goal.returns-then-is_held-clause-shown
returns-then-is_held-clause-shown c i last =
    lift_held c.args.self c.args.position.now i c.args.card c.args.shown.number c.args.shown.note c.is_held.ensures.whole last
    (sym c.is_held.ensures.value ∙ c.if-is_held.true) c.requires.shown

pub returns-in-Plain-clause-shown : goal.returns-in-Plain-clause-shown
returns-in-Plain-clause-shown c i last =
    lift_free c.args.self c.args.position.now i c.args.card c.args.shown.number c.args.shown.note c.is_held.ensures.whole last
    (sym c.is_held.ensures.value ∙ c.if-is_held.false) (λ is. absurd (cc (c.in-Plain.is))) c.requires.shown

pub returns-in-Clearing-clause-shown : goal.returns-in-Clearing-clause-shown
returns-in-Clearing-clause-shown c i last =
    subst (λ k. IsShown k (board_without c.args.position.now (Column i)) c.without.result.number c.without.result.note) (sym c.in-Clearing.is)
    (lift_free Clearing c.args.position.now i c.args.card c.without.result.number c.without.result.note c.is_held.ensures.whole last
    (sym c.is_held.ensures.value ∙ c.if-is_held.false) (λ _. c.without.ensures.apart) c.without.ensures.shown)
