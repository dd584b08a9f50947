use Rattle.std.proofs.Common.{◌≡◌, reverse, sym, subst, ap, ◌∙◌}
use Rattle.std.proofs.lemmas.List.Elements.{Contains-append_right}
use Rattle.fc_moves.specs.GameRules.{IsPositionOf}
use Rattle.fc_codes.specs.Spelled.{board_of_code}
use Rattle.fc_codes.specs.State.{IsCodeOf}
use Rattle.fc_home.specs.Settles.{NoneGoesHome}
use Rattle.fc_bound.specs.Kinds.{IsShown}
use Rattle.fc_space.specs.Children.{Frame, frame_of, AreChildrenBy}
use Rattle.fc_space.specs.inner.Children.{AreAllowed}
use Rattle.fc_space.specs.inner.Idle.{LeavesIdle}
use Rattle.fc_space.proofs.ChildLemmas.{IsFrame, reached_code}
use Rattle.fc_space.proofs.IdleLemmas.{children_but}
use Rattle.fc_space.proofs.LookupLemmas.{moved_now}
use Rattle.fc_space.proofs.StayLemmas.{none_goes}
use Rattle.fc_space.proofs.class_space.Positions.set_out.Goals as goal

pub read-moved-requires : goal.read-moved-requires
read-moved-requires g c =
    let own = c.args.self.now in
    let w = frame_of (g.G.Game.game own.rules.game) own.rules.rule own.rules.kind own.start in
    let f : IsFrame w = record { sound = g.met.G.Game.sound own.rules.game; fits = own.fits } in
    record { code = (reached_code w c.args.code.now c.requires.reached.0 f c.requires.reached.1).0 }

pub lay-requires : goal.lay-requires
lay-requires g c =
    let own = c.args.self.now in
    let w = frame_of (g.G.Game.game own.rules.game) own.rules.rule own.rules.kind own.start in
    let f : IsFrame w = record { sound = g.met.G.Game.sound own.rules.game; fits = own.fits } in
    let inner = c.walk.inside in
    let start : inner.layout ≡ own.start = ap (λ u. u.start) (c.walk.view_is) ∙ ap (λ (u : Frame). u.start) c.requires.owned in
    let valid = (reached_code w c.args.code.now c.requires.reached.0 f c.requires.reached.1).0 in
    record {
      next = (
        inner.layout,
        inner.position,
        c.walk.invariant.6.0,
        moved_now inner.layout own.start c.read-moved.new.position (board_of_code own.start c.args.code.now) c.args.code.now c.read-moved.result start
            c.read-moved.ensures.value c.walk.invariant.6.0.whole c.read-moved.ensures.whole valid.coded c.read-moved.ensures.moved,
      );
    }

pub list_moves-requires : goal.list_moves-requires
list_moves-requires g c =
    let own = c.args.self.now in
    let w = frame_of (g.G.Game.game own.rules.game) own.rules.rule own.rules.kind own.start in
    let f : IsFrame w = record { sound = g.met.G.Game.sound own.rules.game; fits = own.fits } in
    let inner = c.walk.inside in
    let start : inner.layout ≡ own.start = ap (λ u. u.start) (c.walk.view_is) ∙ ap (λ (u : Frame). u.start) c.requires.owned in
    let valid = (reached_code w c.args.code.now c.requires.reached.0 f c.requires.reached.1).0 in
    let moved = moved_now inner.layout own.start c.read-moved.new.position (board_of_code own.start c.args.code.now) c.args.code.now c.read-moved.result start
    c.read-moved.ensures.value c.walk.invariant.6.0.whole c.read-moved.ensures.whole valid.coded c.read-moved.ensures.moved in
    record {
      whole = c.read-moved.ensures.whole;
      table = λ first. (c.lay.ensures.lookup inner.layout inner.position c.walk.invariant.6.0 moved).table
          (c.lay.ensures.laid ∙ c.looks_up-is_asked.ensures.first first);
    }

pub invariant_of-walk : goal.invariant_of-walk
invariant_of-walk g c =
    let own = c.args.self.now in
    let w = frame_of (g.G.Game.game own.rules.game) own.rules.rule own.rules.kind own.start in
    let f : IsFrame w = record { sound = g.met.G.Game.sound own.rules.game; fits = own.fits } in
    let inner = c.walk.inside in
    let v = frame_of (g.G.Game.game inner.rules.game) inner.rules.rule inner.rules.kind inner.layout in
    let here : v ≡ w = ap (λ u. frame_of (g.G.Game.game u.game) u.rule u.kind u.start) c.walk.view_is ∙ c.requires.owned in
    let x = c.args.code.now in
    let p = c.read-moved.new.position in
    let moves = c.list_moves.new.list.items in
    let lists = c.list_moves.ensures.lists in
    let reached = reached_code w x c.requires.reached.0 f c.requires.reached.1 in
    let valid = reached.0 in
    let same = sym c.read-moved.ensures.value in
    let kept =
    subst (λ (u : Frame). IsPositionOf u.game p × AreAllowed u.game p moves × IsShown u.kind p c.args.shown.number c.args.shown.note × NoneGoesHome u.rule u.game p
    × IsCodeOf u.start p x) (sym here) (
      subst (IsPositionOf w.game) same valid.position,
      λ m there. lists.1.allowed m (Contains-append_right lists.0 moves m there),
      subst (λ b. IsShown w.kind b c.args.shown.number c.args.shown.note) same c.requires.shown,
      subst (NoneGoesHome w.rule w.game) same (none_goes w.rule w.game (board_of_code w.start x) reached.1),
      subst (λ b. IsCodeOf w.start b x) same valid.coded,
    ) in
    let start : inner.layout ≡ own.start = ap (λ (u : Frame). u.start) here in
    let moved = moved_now inner.layout own.start p (board_of_code own.start x) x c.read-moved.result start
    c.read-moved.ensures.value c.walk.invariant.6.0.whole c.read-moved.ensures.whole valid.coded c.read-moved.ensures.moved in (
      kept.0,
      kept.1,
      kept.2,
      kept.3,
      kept.4,
      tt,
      (c.lay.ensures.lookup inner.layout inner.position c.walk.invariant.6.0 moved, λ kind. c.lay.ensures.laid ∙ c.looks_up-is_asked.ensures.clearing kind),
      tt,
    )

pub returns : goal.returns
returns g c =
    let own = c.args.self.now in
    let w = frame_of (g.G.Game.game own.rules.game) own.rules.rule own.rules.kind own.start in
    let f : IsFrame w = record { sound = g.met.G.Game.sound own.rules.game; fits = own.fits } in
    let inner = c.walk.inside in
    let v = frame_of (g.G.Game.game inner.rules.game) inner.rules.rule inner.rules.kind inner.layout in
    let here : v ≡ w = ap (λ u. frame_of (g.G.Game.game u.game) u.rule u.kind u.start) c.walk.view_is ∙ c.requires.owned in
    let x = c.args.code.now in
    let p = c.read-moved.new.position in
    let moves = c.list_moves.new.list.items in
    let lists = c.list_moves.ensures.lists in
    let reached = reached_code w x c.requires.reached.0 f c.requires.reached.1 in
    let valid = reached.0 in
    let same = c.read-moved.ensures.value in
    let all = children_but w x c.args.shown.number c.args.shown.note lists.0 moves c.list_moves.result in
    record {
      owned = here;
      children = λ children are.
          all children f valid (none_goes w.rule w.game (board_of_code w.start x) reached.1) c.requires.shown
          (subst (λ b. LeavesIdle w.game b c.args.shown.note lists.0 moves) same lists.1) lists.2
          (subst (λ b. AreChildrenBy w b (reverse moves) children) same
          (subst (λ (u : Frame). AreChildrenBy u p (reverse moves) children) here are));
      later = c.list_moves.ensures.later;
    }
