use Rattle.std.proofs.Common.{sym, subst, ap, ◌∙◌, arith}
use Rattle.std.specs.Prelude.{Contains}
use Rattle.fc_moves.specs.GameRules.{IsPositionOf}
use Rattle.fc_codes.specs.Spelled.{board_of_code}
use Rattle.fc_codes.specs.State.{IsCodeOf}
use Rattle.fc_home.specs.Settles.{NoneGoesHome}
use Rattle.fc_space.specs.Children.{frame_of}
use Rattle.fc_space.specs.inner.Lookups.{IsLookupOf}
use Rattle.fc_space.proofs.ChildLemmas.{IsFrame, reached_code}
use Rattle.fc_space.proofs.StayLemmas.{none_goes}
use Rattle.fc_space.proofs.class_space.Positions.walk.Goals as goal

pub position-position-requires : goal.position-position-requires
position-position-requires g c =
    let own = c.args.self.now in
    let w = frame_of (g.G.Game.game own.rules.game) own.rules.rule own.rules.kind own.start in
    let f : IsFrame w = record { sound = g.met.G.Game.sound own.rules.game; fits = own.fits } in
    record { code = (reached_code w c.args.code.now c.requires.reached.0 f c.requires.reached.1).0 }

pub invariant_of-result : goal.invariant_of-result
invariant_of-result g c =
    let own = c.args.self.now in
    let w = frame_of (g.G.Game.game own.rules.game) own.rules.rule own.rules.kind own.start in
    let f : IsFrame w = record { sound = g.met.G.Game.sound own.rules.game; fits = own.fits } in
    let x = c.args.code.now in
    let reached = reached_code w x c.requires.reached.0 f c.requires.reached.1 in
    let valid = reached.0 in
    let same = sym c.position-position.ensures.value in
    let settled = subst (NoneGoesHome w.rule w.game) same (none_goes w.rule w.game (board_of_code w.start x) reached.1) in
    let position = subst (IsPositionOf w.game) same valid.position in
    let coded = subst (λ b. IsCodeOf w.start b x) same valid.coded in
    let start = sym (c.copy-2.ensures.value ∙ own.laid) in (
      subst (λ r. IsPositionOf r c.position-position.result) (sym c.copy.ensures.value) position,
      λ m there. absurd (let none = subst (λ l. Contains l m) c.new.ensures there in omega (arith, none.1)),
      c.shown-shown.ensures.shown,
      subst (λ r. NoneGoesHome own.rules.rule r c.position-position.result) (sym c.copy.ensures.value) settled,
      subst (λ s. IsCodeOf s c.position-position.result x) start coded,
      tt,
      (subst (λ s. IsLookupOf s c.position-position.result c.new-lookup.result) start c.new-lookup.ensures.lookup, λ _. c.new-lookup.ensures.laid),
      tt,
    )

pub returns-clause-owned : goal.returns-clause-owned
returns-clause-owned g c =
    let own = c.args.self.now in
    ap (λ r. frame_of r own.rules.rule own.rules.kind c.copy-2.result) c.copy.ensures.value
    ∙ ap (λ s. frame_of (g.G.Game.game own.rules.game) own.rules.rule own.rules.kind s) (c.copy-2.ensures.value ∙ own.laid)

pub returns-clause-code : goal.returns-clause-code
returns-clause-code g c =
    let own = c.args.self.now in
    let w = frame_of (g.G.Game.game own.rules.game) own.rules.rule own.rules.kind own.start in
    let f : IsFrame w = record { sound = g.met.G.Game.sound own.rules.game; fits = own.fits } in
    let x = c.args.code.now in
    let valid = (reached_code w x c.requires.reached.0 f c.requires.reached.1).0 in
    let coded = subst (λ b. IsCodeOf w.start b x) (sym c.position-position.ensures.value) valid.coded in
    subst (λ s. IsCodeOf s c.position-position.result x) (sym (c.copy-2.ensures.value ∙ own.laid)) coded
