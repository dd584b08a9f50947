use Rattle.std.proofs.Common.{◌≡◌, ℕ, refl, sym, ◌∙◌, subst}
use Rattle.fc_codes.specs.Moved.{Moves}
use Rattle.fc_codes.proofs.start_layouts.Layout.moved.Goals as goal

pub returns-in-Some-clause-value : goal.returns-in-Some-clause-value
returns-in-Some-clause-value c =
    λ d card x.
    let there = x.playable in
    let found = sym c.playable.ensures.value ∙ c.in-Some.is in
    let same : card ≡ c.in-Some.card = cc in
    c.landed.ensures.value d c.args.m
    (subst (λ (u : ℕ). Moves c.args.self.now c.args.code.now u c.args.position.now c.args.m d) same x) refl
