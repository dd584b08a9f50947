use Rattle.std.proofs.Common.{◌≡◌, ◌∙◌, ap, arith, subst, sym}
use Rattle.fc_moves.specs.GameRules.{IsPositionOf}
use Rattle.fc_moves.specs.Step.{Step}
use Rattle.fc_bound.specs.Kinds.{IsShown}
use Rattle.fc_space.specs.Children.{frame_of, last_move}
use Rattle.fc_space.specs.inner.Standing.{IsStanding}
use Rattle.fc_space.specs.declared.child_walks.Standing.TheVariants.{Shifted, Settled}
use Rattle.fc_space.proofs.WalkLemmas.{child_count, child_most, shift_count, shown_on}
use Rattle.fc_space.proofs.child_walks.Children.shown_there.Goals as goal

pub overflow_sub-result : goal.overflow_sub-result
overflow_sub-result g c =
    let v = c.args.self.now in
    let w = frame_of (g.G.Game.game v.game) v.rule v.kind v.start in
    let p = subst (λ u. IsPositionOf (g.G.Game.game u.game) u.position) c.self.view_is c.self.invariant.0 in
    let inner = c.self.inside in
    let own = subst (IsStanding (frame_of (g.G.Game.game inner.rules.game) inner.rules.rule inner.rules.kind inner.layout) inner.position) c.in-Settled.is c.self.invariant.5 in
    let at = subst (λ u. IsStanding (frame_of (g.G.Game.game u.game) u.rule u.kind u.start) u.position (Settled c.in-Settled.m c.in-Settled.code c.in-Settled.count)) c.self.view_is own in
    let shown = c.shown_after-shown.result in
    child_most v.kind w v.position c.in-Settled.m c.in-Settled.code c.in-Settled.count shown.number shown.note p at c.shown_after-shown.ensures.shown

pub returns-in-Shifted-clause-shown : goal.returns-in-Shifted-clause-shown
returns-in-Shifted-clause-shown g c m z q count is step settles =
    let v = c.args.self.now in
    let rules = g.G.Game.game v.game in
    let p = subst (λ u. IsPositionOf (g.G.Game.game u.game) u.position) c.self.view_is c.self.invariant.0 in
    let inner = c.self.inside in
    let own = subst (IsStanding (frame_of (g.G.Game.game inner.rules.game) inner.rules.rule inner.rules.kind inner.layout) inner.position) c.in-Shifted.is c.self.invariant.5 in
    let at = subst (λ u. IsStanding (frame_of (g.G.Game.game u.game) u.rule u.kind u.start) u.position (Shifted c.in-Shifted.landing)) c.self.view_is own in
    let last = ap (λ u. u.last) c.self.view_is in
    let same : c.in-Shifted.landing.m ≡ m = (let x = sym (ap last_move c.in-Shifted.is) ∙ last ∙ is in cc) in
    let shown = c.shown_where.result in
    let s = shown_on v.kind rules v.rule v.position c.in-Shifted.landing.m 0 shown.number shown.note p c.shown_where.ensures.shown
    (shift_count rules v.rule v.position c.in-Shifted.landing.m p at.1) z q count (subst (λ k. Step rules v.position k z) (sym same) step) settles in
    subst (λ n. IsShown v.kind q n shown.note) (omega arith) s.1

pub returns-in-Settled-clause-shown : goal.returns-in-Settled-clause-shown
returns-in-Settled-clause-shown g c m z q count is step settles =
    let v = c.args.self.now in
    let rules = g.G.Game.game v.game in
    let w = frame_of rules v.rule v.kind v.start in
    let p = subst (λ u. IsPositionOf (g.G.Game.game u.game) u.position) c.self.view_is c.self.invariant.0 in
    let inner = c.self.inside in
    let own = subst (IsStanding (frame_of (g.G.Game.game inner.rules.game) inner.rules.rule inner.rules.kind inner.layout) inner.position) c.in-Settled.is c.self.invariant.5 in
    let at = subst (λ u. IsStanding (frame_of (g.G.Game.game u.game) u.rule u.kind u.start) u.position (Settled c.in-Settled.m c.in-Settled.code c.in-Settled.count)) c.self.view_is own in
    let last = ap (λ u. u.last) c.self.view_is in
    let same : c.in-Settled.m ≡ m = (let x = sym (ap last_move c.in-Settled.is) ∙ last ∙ is in cc) in
    let shown = c.shown_after-shown.result in
    let s = shown_on v.kind rules v.rule v.position c.in-Settled.m c.in-Settled.count shown.number shown.note p c.shown_after-shown.ensures.shown
    (child_count w v.position c.in-Settled.m c.in-Settled.code c.in-Settled.count p at) z q count (subst (λ k. Step rules v.position k z) (sym same) step) settles in
    s.1
