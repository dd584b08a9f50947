use Rattle.std.proofs.Common.{◌≡◌, ◌≤◌, ◌∙◌, ℕ, Some, ap, arith, sym, subst}
use Rattle.fc_position.specs.Board.{Board}
use Rattle.fc_moves.specs.declared.steps.Move.{Move}
use Rattle.fc_moves.specs.Step.{Step}
use Rattle.fc_home.specs.Settles.{Settles}
use Rattle.fc_bound.specs.Kinds.{IsShown}
use Rattle.fc_space.specs.Children.{frame_of, last_move}
use Rattle.fc_space.specs.inner.Standing.{IsStanding}
use Rattle.fc_space.proofs.WalkLemmas.{child_count, least_on, shift_count}
use Rattle.fc_space.proofs.child_walks.Children.least.Goals as goal

pub returns-in-Shifted-clause-least : goal.returns-in-Shifted-clause-least
returns-in-Shifted-clause-least g c =
    let inner = c.self.inside in
    let rules = g.G.Game.game inner.rules.game in
    let kind = inner.rules.kind in
    let rule = inner.rules.rule in
    let least = c.least_where.result in
    let w = frame_of rules rule kind inner.layout in
    let at = subst (IsStanding w inner.position) c.in-Shifted.is c.self.invariant.5 in
    let on = least_on kind rules rule inner.position c.in-Shifted.landing.m 0 least c.self.invariant.0 (c.least_where.ensures.least rules)
    (shift_count rules rule inner.position c.in-Shifted.landing.m c.self.invariant.0 at.1) in
    subst (λ v. (m : Move) (z q : Board) (count : ℕ) → v.last ≡ Some m → Step (g.G.Game.game v.game) v.position m z
    → Settles (g.G.Game.game v.game) v.rule z count q → (number : ℕ) × (note : ℕ) × IsShown v.kind q number note × (least ≤ number)) c.self.view_is
    (λ m z q count is step settles.
    let same : c.in-Shifted.landing.m ≡ m = (let x = sym (ap last_move c.in-Shifted.is) ∙ is in cc) in
    let s = on z q count (subst (λ n. Step rules inner.position n z) (sym same) step) settles in
    (s.0, s.1, s.2, omega (arith, s.3)))

pub returns-in-Settled-clause-least : goal.returns-in-Settled-clause-least
returns-in-Settled-clause-least g c =
    let inner = c.self.inside in
    let rules = g.G.Game.game inner.rules.game in
    let kind = inner.rules.kind in
    let rule = inner.rules.rule in
    let least = c.least_after.result in
    let w = frame_of rules rule kind inner.layout in
    let n = c.in-Settled.count in
    let at = subst (IsStanding w inner.position) c.in-Settled.is c.self.invariant.5 in
    let on = least_on kind rules rule inner.position c.in-Settled.m n least c.self.invariant.0 (c.least_after.ensures.least rules)
    (child_count w inner.position c.in-Settled.m c.in-Settled.code n c.self.invariant.0 at) in
    subst (λ v. (m : Move) (z q : Board) (count : ℕ) → v.last ≡ Some m → Step (g.G.Game.game v.game) v.position m z
    → Settles (g.G.Game.game v.game) v.rule z count q → (number : ℕ) × (note : ℕ) × IsShown v.kind q number note × (c.saturating_sub.result ≤ number)) c.self.view_is
    (λ m z q count is step settles.
    let same : c.in-Settled.m ≡ m = (let x = sym (ap last_move c.in-Settled.is) ∙ is in cc) in
    let s = on z q count (subst (λ k. Step rules inner.position k z) (sym same) step) settles in
    (s.0, s.1, s.2, omega (arith, s.3, c.saturating_sub.ensures)))
