use Rattle.std.proofs.Common.{◌≡◌, [], ◌∷◌, reverse, sym, ap, ◌∙◌, subst}
use Rattle.std.specs.Prelude.{Contains}
use Rattle.std.proofs.lemmas.List.Elements.{Contains-push, Contains-append_left}
use Rattle.std.proofs.lemmas.List.Sorted.{Contains-permutation, IsPermutation-reverse, IsPermutation-sym}
use Rattle.fc_space.specs.Children.{AreChildrenBy, ChildrenLeft, StandsAt, frame_of, last_move}
use Rattle.fc_space.specs.inner.Children.{AreAllowed}
use Rattle.fc_space.proofs.ChildLemmas.{IsFrame, child_at, child_exists, children_exist, children_same, next_child, stands_same}
use Rattle.fc_space.proofs.class_space.PositionsSpaceCode.next.Goals as goal

pub invariant_of-walk-2 : goal.invariant_of-walk-2
invariant_of-walk-2 g c =
    let rest = c.pop.new.self.items in (
      c.walk.invariant.0,
      λ m there. c.walk.invariant.1 m
          (subst (λ l. Contains l m) (sym c.in_ok-m.ensures.items) (Contains-append_left rest (c.in_ok-m.m ∷ []) m there)),
      c.walk.invariant.2,
      c.walk.invariant.3,
      c.walk.invariant.4,
      c.walk.invariant.5,
      c.walk.invariant.6,
      c.walk.invariant.7,
    )

pub step-requires : goal.step-requires
step-requires g c =
    let rest = c.pop.new.self.items in
    record { allowed = c.walk.invariant.1 c.in_ok-m.m (subst (λ l. Contains l c.in_ok-m.m) (sym c.in_ok-m.ensures.items) (Contains-push rest c.in_ok-m.m)) }

pub returns-clause-next : goal.returns-clause-next
returns-clause-next g c =
    let inner = c.walk.inside in
    let rules = g.G.Game.game inner.rules.game in
    let rest = c.pop.new.self.items in
    let old : ChildrenLeft g.row.G.Denot = record {
      game = inner.rules.game;
      rule = inner.rules.rule;
      kind = inner.rules.kind;
      start = inner.layout;
      position = inner.position;
      moves = rest;
      last = last_move inner.standing;
    } in
    let w = frame_of rules inner.rules.rule inner.rules.kind inner.layout in
    let same = c.step.ensures.same in
    λ y children at are.
    let there = stands_same g.G.Game.game old c.step.new.self c.step.new.self.last y (same.0, same.1, same.2, same.3, same.4) at in
    let is = child_at w inner.position c.step.new.self.last c.in_ok-m.m y c.step.result c.step.ensures.last there c.step.ensures.cost in
    subst (λ v. AreChildrenBy (frame_of (g.G.Game.game v.game) v.rule v.kind v.start) v.position (reverse v.moves) (record { key = y; cost = c.step.result } ∷ children))
    c.walk.view_is
    (next_child w inner.position inner.left.items rest c.in_ok-m.m (record { key = y; cost = c.step.result }) children c.in_ok-m.ensures.items
    is (children_same g.G.Game.game old c.step.new.self same children are))

pub returns-clause-there : goal.returns-clause-there
returns-clause-there g c =
    let inner = c.walk.inside in
    let rules = g.G.Game.game inner.rules.game in
    let rest = c.pop.new.self.items in
    let own = c.args.self.now in
    let u = frame_of (g.G.Game.game own.rules.game) own.rules.rule own.rules.kind own.start in
    let v = frame_of rules inner.rules.rule inner.rules.kind inner.layout in
    let here : v ≡ u = ap (λ s. frame_of (g.G.Game.game s.game) s.rule s.kind s.start) c.walk.view_is ∙ c.requires.owned in
    let at_home : IsFrame u = record { sound = g.met.G.Game.sound own.rules.game; fits = own.fits } in
    let f = subst IsFrame (sym here) at_home in
    let allowed = c.walk.invariant.1 c.in_ok-m.m (subst (λ l. Contains l c.in_ok-m.m) (sym c.in_ok-m.ensures.items) (Contains-push rest c.in_ok-m.m)) in
    let child = child_exists v inner.position inner.code c.in_ok-m.m f c.walk.invariant.0 c.walk.invariant.4 allowed in
    let old : ChildrenLeft g.row.G.Denot = record {
      game = inner.rules.game;
      rule = inner.rules.rule;
      kind = inner.rules.kind;
      start = inner.layout;
      position = inner.position;
      moves = rest;
      last = last_move inner.standing;
    } in
    let same = c.step.ensures.same in (
      child.0.key,
      stands_same g.G.Game.game c.step.new.self old c.step.new.self.last child.0.key (sym same.0, sym same.1, sym same.2, sym same.3, sym same.4)
          (subst (λ l. StandsAt v inner.position l child.0.key) (sym c.step.ensures.last) (child.0.cost, child.1)),
    )

pub returns-clause-some : goal.returns-clause-some
returns-clause-some g c =
    let inner = c.walk.inside in
    let rules = g.G.Game.game inner.rules.game in
    let rest = c.pop.new.self.items in
    let allowed : AreAllowed rules inner.position (reverse rest) = λ m there.
    c.walk.invariant.1 m
    (subst (λ l. Contains l m) (sym c.in_ok-m.ensures.items)
    (Contains-append_left rest (c.in_ok-m.m ∷ []) m
    (Contains-permutation (reverse rest) rest m (IsPermutation-sym rest (reverse rest) (IsPermutation-reverse rest)) there))) in
    let own = c.args.self.now in
    let u = frame_of (g.G.Game.game own.rules.game) own.rules.rule own.rules.kind own.start in
    let v = frame_of rules inner.rules.rule inner.rules.kind inner.layout in
    let here : v ≡ u = ap (λ s. frame_of (g.G.Game.game s.game) s.rule s.kind s.start) c.walk.view_is ∙ c.requires.owned in
    let at_home : IsFrame u = record { sound = g.met.G.Game.sound own.rules.game; fits = own.fits } in
    let f = subst IsFrame (sym here) at_home in
    let some = children_exist v inner.position inner.code (reverse rest) f c.walk.invariant.0 c.walk.invariant.4 allowed in
    let old : ChildrenLeft g.row.G.Denot = record {
      game = inner.rules.game;
      rule = inner.rules.rule;
      kind = inner.rules.kind;
      start = inner.layout;
      position = inner.position;
      moves = rest;
      last = last_move inner.standing;
    } in
    let same = c.step.ensures.same in (
      some.0,
      children_same g.G.Game.game c.step.new.self old (sym same.0, sym same.1, sym same.2, sym same.3, sym same.4, sym same.5) some.0 some.1,
    )
