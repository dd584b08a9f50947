use Rattle.std.proofs.Common.{sym, subst, ap, ◌∙◌}
use Rattle.fc_position.specs.Board.{Board, board_without}
use Rattle.fc_moves.specs.GameRules.{IsPositionOf}
use Rattle.fc_moves.specs.Step.{Allows}
use Rattle.fc_moves.proofs.BackLemmas.{taken_back}
use Rattle.fc_home.specs.Settles.{NoneGoesHome}
use Rattle.fc_bound.specs.Kinds.{IsShown}
use Rattle.fc_bound.specs.Rows.{IsTableOf}
use Rattle.fc_bound.proofs.FamilyAfter.{lifted_there}
use Rattle.fc_bound.proofs.LiftedLemmas.{columns_lifted}
use Rattle.fc_codes.specs.State.{IsCodeOf}
use Rattle.fc_space.specs.Children.{ChildrenLeft, frame_of, last_move}
use Rattle.fc_space.specs.inner.Standing.{IsKept, IsStanding}
use Rattle.fc_space.proofs.LookupLemmas.{still_laid}
use Rattle.fc_space.proofs.child_walks.Children.landed.Goals as goal

pub put-requires : goal.put-requires
put-requires g c =
    let inner = c.self.inside in
    record {
      table = subst (λ v. IsTableOf v c.lift.new.self)
          (columns_lifted (g.G.Game.game inner.rules.game) inner.position c.apply.new.position c.args.m c.apply.ensures.step c.requires.away)
          c.lift.ensures.table;
    }

pub landed-landed-requires-clause-kept : goal.landed-landed-requires-clause-kept
landed-landed-requires-clause-kept g c =
    let inner = c.self.inside in
    let kept = subst (λ v. IsShown v.kind (board_without v.position c.args.m.from) c.args.kept.number c.args.kept.note) (sym c.self.view_is) c.requires.kept in
    lifted_there inner.rules.kind (g.G.Game.game inner.rules.game) inner.position c.apply.new.position c.args.m c.args.kept.number c.args.kept.note
    c.apply.ensures.step c.requires.away kept

pub shift-requires : goal.shift-requires
shift-requires g c =
    let back = taken_back (g.G.Game.game c.self.inside.rules.game) c.self.inside.position c.apply.new.position c.args.m c.apply.ensures.step
    c.requires.away in
    record { moves = (c.apply.ensures.step.card, back.there, back.receives) }

pub put-requires-2 : goal.put-requires-2
put-requires-2 g c =
    let inner = c.self.inside in
    let rules = g.G.Game.game inner.rules.game in
    let back = taken_back rules inner.position c.apply.new.position c.args.m c.apply.ensures.step c.requires.away in
    let same = sym (c.shift.ensures.after c.apply.ensures.step.card back.there ∙ back.back) in
    record {
      table = subst (λ b. IsTableOf (board_without b c.args.m.from).columns c.lift-2.new.self) same
          (subst (λ v. IsTableOf v c.lift-2.new.self)
          (sym (columns_lifted rules inner.position c.apply.new.position c.args.m c.apply.ensures.step c.requires.away)) c.lift-2.ensures.table);
    }

pub invariant_of-self : goal.invariant_of-self
invariant_of-self g c =
    let inner = c.self.inside in
    let rules = g.G.Game.game inner.rules.game in
    let back = taken_back rules inner.position c.apply.new.position c.args.m c.apply.ensures.step c.requires.away in
    let same = sym (c.shift.ensures.after c.apply.ensures.step.card back.there ∙ back.back) in (
      subst (IsPositionOf rules) same c.self.invariant.0,
      λ m there. subst (λ b. Allows rules b m) same (c.self.invariant.1 m there),
      subst (λ b. IsShown inner.rules.kind b inner.shown.number inner.shown.note) same c.self.invariant.2,
      subst (NoneGoesHome inner.rules.rule rules) same c.self.invariant.3,
      subst (λ b. IsCodeOf inner.layout b inner.code) same c.self.invariant.4,
      subst (λ b. IsStanding (frame_of rules inner.rules.rule inner.rules.kind inner.layout) b inner.standing) same c.self.invariant.5,
      (
        still_laid inner.layout inner.position c.shift.new.self inner.lookup c.put-2.new.self same c.self.invariant.6.0
            (c.self.invariant.6.1 (ap (λ v. v.kind) c.self.view_is ∙ c.requires.kind)) c.put-2.ensures.table,
        c.self.invariant.6.1,
      ),
      subst (λ b. IsKept inner.rules.kind b inner.kept) same c.self.invariant.7,
    )

pub returns-clause-same : goal.returns-clause-same
returns-clause-same g c =
    let inner = c.self.inside in
    let back = taken_back (g.G.Game.game inner.rules.game) inner.position c.apply.new.position c.args.m c.apply.ensures.step c.requires.away in
    let view : Board → ChildrenLeft g.row.G.Denot = λ b. record {
      game = inner.rules.game;
      rule = inner.rules.rule;
      kind = inner.rules.kind;
      start = inner.layout;
      position = b;
      moves = inner.left.items;
      last = last_move inner.standing;
    } in
    ap view (c.shift.ensures.after c.apply.ensures.step.card back.there ∙ back.back) ∙ c.self.view_is
