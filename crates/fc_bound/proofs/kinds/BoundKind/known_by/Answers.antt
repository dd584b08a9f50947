use Rattle.std.proofs.Common.{◌≡◌, ℕ, Some, sym, ◌∙◌, ap, subst}
use Rattle.std.specs.Int.{bit_at}
use Rattle.std.proofs.lemmas.Option.{IfSome_then}
use Rattle.fc_position.specs.Board.{playable}
use Rattle.fc_bound.proofs.FamilyMoved.{small}
use Rattle.fc_bound.proofs.kinds.BoundKind.known_by.Goals as goal

pub known-requires-clause-most : goal.known-requires-clause-most
known-requires-clause-most c =
    small c.args.self c.args.position.now c.args.shown.number c.args.shown.note c.is_held_on-there.ensures.whole c.requires.shown

pub returns-clause-known : goal.returns-clause-known
returns-clause-known c =
    IfSome_then c.known.result c.known.ensures.known (λ known tells g z step.
    let b = c.args.position.now in
    let landing = c.requires.landing in
    let u = c.index-card.result in
    let there : playable b c.args.landing.now.m.from ≡ Some u = landing.card ∙ ap (λ (n : ℕ). Some n) (sym c.index-card.ensures.value) in
    let same : step.card ≡ u = let x = sym step.playable ∙ there in cc in
    tells g b z step c.is_held_on-there.ensures.whole same c.is_held-held.ensures.value
    (λ away. c.is_held_on-there.ensures.value g z c.args.landing.now.m step same away landing.host)
    c.requires.shown)

pub returns-clause-told : goal.returns-clause-told
returns-clause-told c none free = c.known.ensures.told (subst (λ (u : ℕ). bit_at c.args.shown.note u ≡ 0) (sym c.index-card.ensures.value) free)
