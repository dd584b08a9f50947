use Rattle.std.proofs.Common.{◌≡◌, ◌+◌, ℕ, arith, sym, subst}
use Rattle.fc_position.specs.Board.{Board}
use Rattle.fc_moves.specs.GameRules.{IsPositionOf}
use Rattle.fc_moves.specs.Step.{Allows, Step}
use Rattle.fc_home.specs.Settles.{NoneGoesHome, Settles}
use Rattle.fc_bound.specs.Kinds.{IsShown}
use Rattle.fc_codes.specs.State.{IsCodeOf}
use Rattle.fc_space.specs.Children.{frame_of, IsChildOf}
use Rattle.fc_space.specs.inner.Codes.{IsCodeAfter}
use Rattle.fc_space.specs.inner.Lookups.{IsLookupOf}
use Rattle.fc_space.specs.inner.Standing.{IsKept, IsStanding, StaysSettled}
use Rattle.fc_space.specs.declared.child_walks.Standing.TheVariants.{Shifted}
use Rattle.fc_space.proofs.WalkLemmas.{child_count, shift_count}
use Rattle.fc_space.proofs.WayLemmas.{code_moved}
use Rattle.fc_space.proofs.child_walks.Children.step.Goals as goal
use Rattle.fc_space.proofs.child_walks.Children.step.Goals.{After-child_by_copy-code}

pub invariant_of-self : goal.invariant_of-self
invariant_of-self g c =
    let inner = c.self.inside in
    let rules = g.G.Game.game inner.rules.game in
    let same = sym c.lands.ensures.same in
    let landing = c.in-Some.landing in
    let lands = c.in-Some.ensures.lands in
    let allowed = subst (λ v. Allows (g.G.Game.game v.game) v.position c.args.m) (sym c.self.view_is) c.requires.allowed in (
      subst (IsPositionOf rules) same c.self.invariant.0,
      λ m there. subst (λ b. Allows rules b m) same (c.self.invariant.1 m there),
      subst (λ b. IsShown inner.rules.kind b inner.shown.number inner.shown.note) same c.self.invariant.2,
      subst (NoneGoesHome inner.rules.rule rules) same c.self.invariant.3,
      subst (λ b. IsCodeOf inner.layout b inner.code) same c.self.invariant.4,
      subst (λ b. IsStanding (frame_of rules inner.rules.rule inner.rules.kind inner.layout) b (Shifted landing)) same
          (subst (λ m. Allows rules inner.position m) (sym lands.1) allowed, subst (λ m. StaysSettled inner.rules.rule rules inner.position m) (sym lands.1) lands.2, lands.0),
      (subst (λ b. IsLookupOf inner.layout b inner.lookup) same c.self.invariant.6.0, c.self.invariant.6.1),
      subst (λ b. IsKept inner.rules.kind b inner.kept) same c.self.invariant.7,
    )

pub returns-in-Some-clause-cost : goal.returns-in-Some-clause-cost
returns-in-Some-clause-cost g c =
    let inner = c.self.inside in
    let rules = g.G.Game.game inner.rules.game in
    subst (λ v. (z q : Board) (count : ℕ) → Step (g.G.Game.game v.game) v.position c.args.m z → Settles (g.G.Game.game v.game) v.rule z count q → 1 ≡ 1 + count)
    c.self.view_is
    (λ z q count step settles.
    let none = shift_count rules inner.rules.rule inner.position c.args.m c.self.invariant.0 c.in-Some.ensures.lands.2 z q count step settles in
    omega (arith, none))

-- the code of the result of the move, where the position is as it was
after_move : (g : _) (c : After-child_by_copy-code g) → IsChildOf (frame_of (g.G.Game.game c.self.inside.rules.game) c.self.inside.rules.rule c.self.inside.rules.kind c.self.inside.layout)
    c.lands.new.position c.args.m (record { key = c.child_by_copy-code.result.0; cost = 1 + c.child_by_copy-code.result.1 })
after_move g c =
    let inner = c.self.inside in
    let rules = g.G.Game.game inner.rules.game in
    let code = c.moved-code.result in
    let coded = subst (λ b. IsCodeOf inner.layout b inner.code) (sym c.lands.ensures.same) c.self.invariant.4 in
    let after : IsCodeAfter inner.layout rules c.lands.new.position c.args.m code = λ z step.
    code_moved inner.layout inner.code c.lands.new.position z c.args.m rules code (g.met.G.Game.sound inner.rules.game) c.moved-code.ensures.whole
    coded step c.moved-code.ensures.value in
    c.child_by_copy-code.ensures.child inner.layout after

pub invariant_of-self-2 : goal.invariant_of-self-2
invariant_of-self-2 g c =
    let now = goal.at.invariant_of-self-2 g c in
    let inner = c.self.inside in
    let rules = g.G.Game.game inner.rules.game in
    let same = sym c.lands.ensures.same in (
      subst (IsPositionOf rules) same c.self.invariant.0,
      λ m there. subst (λ b. Allows rules b m) same (c.self.invariant.1 m there),
      subst (λ b. IsShown inner.rules.kind b inner.shown.number inner.shown.note) same c.self.invariant.2,
      subst (NoneGoesHome inner.rules.rule rules) same c.self.invariant.3,
      subst (λ b. IsCodeOf inner.layout b inner.code) same c.self.invariant.4,
      after_move g now.After-child_by_copy-code,
      (subst (λ b. IsLookupOf inner.layout b inner.lookup) same c.self.invariant.6.0, c.self.invariant.6.1),
      subst (λ b. IsKept inner.rules.kind b inner.kept) same c.self.invariant.7,
    )

pub returns-clause-cost : goal.returns-clause-cost
returns-clause-cost g c =
    let now = goal.at.returns-clause-cost g c in
    let inner = c.self.inside in
    let w = frame_of (g.G.Game.game inner.rules.game) inner.rules.rule inner.rules.kind inner.layout in
    let n = c.child_by_copy-code.result.1 in
    let child = subst (λ b. IsChildOf w b c.args.m (record { key = c.child_by_copy-code.result.0; cost = 1 + n })) c.lands.ensures.same (after_move g now.After-child_by_copy-code) in
    subst (λ v. (z q : Board) (count : ℕ) → Step (g.G.Game.game v.game) v.position c.args.m z → Settles (g.G.Game.game v.game) v.rule z count q → 1 + n ≡ 1 + count)
    c.self.view_is
    (λ z q count step settles.
    let same = child_count w inner.position c.args.m c.child_by_copy-code.result.0 n c.self.invariant.0 child z q count step settles in
    omega (arith, same))
