use Rattle.std.proofs.Common.{◌↔◌, IsTrue, get_or, refl, sym, ◌∙◌, subst, arith}
use Rattle.std.specs.Prelude.{Contains}
use Rattle.std.proofs.lemmas.Bool.{false≢true}
use Rattle.std.proofs.lemmas.List.Elements.{Contains-get_or}
use Rattle.fc_cards.specs.declared.places.Place.TheVariants.{Column}
use Rattle.fc_moves.specs.declared.steps.Move.{Move}
use Rattle.fc_moves.specs.Step.{Allows}
use Rattle.fc_position.specs.Position.{IsPosition}
use Rattle.fc_canonical.specs.Key.{BeginsWithBoard}
use Rattle.fc_canonical.proofs.MoveLemmas.{one_more}
use Rattle.fc_home.proofs.RuleLemmas.{refuted}
use Rattle.fc_checker.specs.inner.Steps.{StepHolds}
use Rattle.fc_checker.proofs.StepLemmas.{one_each}
use Rattle.fc_checker.proofs.record_steps.steps_hold.Goals as goal

pub step_holds-requires-clause-allowed : goal.step_holds-requires-clause-allowed
step_holds-requires-clause-allowed g c =
    let items = c.as_slice-m-items.result.now in
    let d : Move = record { from = Column 0; to = Column 0 } in
    subst (λ x. Allows (g.G.Game.game c.args.game.now) x (get_or items c.loop-m.m-index d)) (sym c.loop-m.invariant.same)
    (c.list_distinct_moves.ensures.classes.allowed (get_or items c.loop-m.m-index d)
    (subst (λ l. Contains l (get_or items c.loop-m.m-index d)) c.as_slice-m-items.ensures.value
    (Contains-get_or items c.loop-m.m-index d c.loop-m-test.true)))

pub returns-then-not-step_holds-clause-value : goal.returns-then-not-step_holds-clause-value
returns-then-not-step_holds-clause-value g c =
    let d : Move = record { from = Column 0; to = Column 0 } in
    let m = get_or c.as_slice-m-items.result.now c.loop-m.m-index d in
    let test = subst (λ x. IsTrue c.step_holds.result ↔ StepHolds (g.G.Game.game c.args.game.now) c.args.certificate.now x c.args.parent.now.cost m)
    c.loop-m.invariant.same c.step_holds.ensures.value in
    let wrong = refuted c.step_holds.result test c.if-not-step_holds.true in
    (λ yes. absurd (false≢true yes), λ all. absurd (wrong (all m)))

pub returns-then-not-step_holds-clause-same : goal.returns-then-not-step_holds-clause-same
returns-then-not-step_holds-clause-same g c = c.step_holds.ensures.same ∙ c.loop-m.invariant.same

pub loop-m-preserved : goal.loop-m-preserved
loop-m-preserved g c =
    let d : Move = record { from = Column 0; to = Column 0 } in
    let m = get_or c.as_slice-m-items.result.now c.loop-m.m-index d in
    let test = subst (λ x. IsTrue c.step_holds.result ↔ StepHolds (g.G.Game.game c.args.game.now) c.args.certificate.now x c.args.parent.now.cost m)
    c.loop-m.invariant.same c.step_holds.ensures.value in
    record {
      same = c.step_holds.ensures.same ∙ c.loop-m.invariant.same;
      looked = c.step_holds.ensures.lookup;
      held = one_more c.as_slice-m-items.result.now c.loop-m.m-index d
          (StepHolds (g.G.Game.game c.args.game.now) c.args.certificate.now c.args.position.now c.args.parent.now.cost) c.loop-m-test.true
          c.loop-m.invariant.held (test.0 c.if-not-step_holds.false);
    }

pub returns-clause-value : goal.returns-clause-value
returns-clause-value g c =
    let rules = g.G.Game.game c.args.game.now in
    let moves = c.list_distinct_moves.new.list.items in
    let items = c.as_slice-m-items.result.now in (
      λ true. one_each rules c.args.certificate.now c.args.position.now c.args.parent.now.cost moves c.list_distinct_moves.ensures.classes
          (λ m there.
          let at = subst (λ l. Contains l m) (sym c.as_slice-m-items.ensures.value) there in
          subst (StepHolds rules c.args.certificate.now c.args.position.now c.args.parent.now.cost) at.2
          (c.loop-m.invariant.held at.0 m (omega (arith, at.1, c.loop-m-test.false)))),
      λ all. refl,
    )

pub step_holds-requires-clause-whole : goal.step_holds-requires-clause-whole
step_holds-requires-clause-whole g c = subst IsPosition (sym c.loop-m.invariant.same) c.requires.whole

pub step_holds-requires-clause-key : goal.step_holds-requires-clause-key
step_holds-requires-clause-key g c = subst (BeginsWithBoard c.args.parent.now.key.now) (sym c.loop-m.invariant.same) c.requires.key
