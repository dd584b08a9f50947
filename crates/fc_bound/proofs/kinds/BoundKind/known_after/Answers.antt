use Rattle.std.proofs.Common.{◌≡◌, ℕ, Some, refl, sym, ◌∙◌, ap}
use Rattle.std.proofs.lemmas.Option.{IfSome_then}
use Rattle.fc_position.specs.Board.{playable}
use Rattle.fc_bound.specs.Bound.{is_held_back}
use Rattle.fc_bound.proofs.FamilyMoved.{small}
use Rattle.fc_bound.proofs.MovedLemmas.{told_card}
use Rattle.fc_bound.proofs.kinds.BoundKind.known_after.Goals as goal

pub known-requires-clause-most : goal.known-requires-clause-most
known-requires-clause-most c =
    small c.args.self c.args.position.now c.args.shown.number c.args.shown.note c.playable.ensures.whole c.requires.shown

pub returns-clause-known : goal.returns-clause-known
returns-clause-known c =
    IfSome_then c.known.result c.known.ensures.known (λ known tells g z step.
    let b = c.args.position.now in
    let u = c.index.result in
    let there : playable b c.args.m.from ≡ Some u = sym c.in_ok-card.ensures.value ∙ ap (λ (n : ℕ). Some n) (sym c.index.ensures.value) in
    let same : step.card ≡ u = let x = sym step.playable ∙ there in cc in
    tells g b z step c.playable.ensures.whole same
    (told_card b c.args.m.from u c.is_held_back-held.result there c.is_held_back-held.ensures.value)
    (λ away. c.is_held_there-there.ensures.value g z c.args.m step (same ∙ c.index.ensures.value) refl away ∙ ap (is_held_back z) (sym c.index.ensures.value))
    c.requires.shown)
