use Rattle.std.proofs.Common.{◌≡◌, get_or, true, rules, sym, ◌∙◌, subst, arith}
use Rattle.std.specs.Prelude.{Contains}
use Rattle.std.proofs.lemmas.List.Elements.{Contains-get_or}
use Rattle.fc_cards.specs.declared.places.Place.TheVariants.{Column}
use Rattle.fc_moves.specs.declared.steps.Move.{Move}
use Rattle.fc_moves.specs.Step.{Step, Allows}
use Rattle.fc_canonical.specs.Key.{IsKeyOf}
use Rattle.fc_canonical.proofs.MoveLemmas.{not_this, one_more}
use Rattle.fc_canonical.proofs.searches.find_move.Goals as goal

pub apply-requires : goal.apply-requires
apply-requires g c =
    let items = c.as_slice-m-items.result.now in
    let d : Move = record { from = Column 0; to = Column 0 } in
    let found : Contains c.moves-list.result.items (get_or items c.loop-m.m-index d) =
    subst (λ l. Contains l (get_or items c.loop-m.m-index d)) c.as_slice-m-items.ensures.value
    (Contains-get_or items c.loop-m.m-index d c.loop-m-test.true) in
    record {
      allowed = subst (λ b. Allows (g.G.Game.game c.args.game.now) b (get_or items c.loop-m.m-index d)) (sym c.copy-next.ensures.value)
          (c.moves-list.ensures.allowed (get_or items c.loop-m.m-index d) found);
    }

pub loop-m-preserved : goal.loop-m-preserved
loop-m-preserved g c =
    let rules_of = g.G.Game.game c.args.game.now in
    let items = c.as_slice-m-items.result.now in
    let d : Move = record { from = Column 0; to = Column 0 } in
    let m = get_or items c.loop-m.m-index d in
    let other : c.key.result.items ≡ c.args.target.now.items → ⊥ = λ e.
    let shown : c.as_slice.result.now ≡ c.as_slice-in-loop-m.result.now =
    c.as_slice.ensures.value ∙ e ∙ sym c.as_slice-in-loop-m.ensures.value in
    let yes : c.eq.result ≡ true = search rules in cc in
    let step : Step rules_of c.args.position.now m c.apply.new.position =
    subst (λ b. Step rules_of b m c.apply.new.position) c.copy-next.ensures.value c.apply.ensures.step in
    λ k e x below s key. one_more items c.loop-m.m-index d
    (λ n. Step rules_of c.args.position.now n x → IsKeyOf x c.args.target.now.items → ⊥)
    c.loop-m-test.true (λ j f lt. c.loop-m.invariant j f x lt)
    (not_this rules_of c.args.position.now m c.apply.new.position c.key.result.items c.args.target.now.items
    c.apply.ensures.whole step c.key.ensures.value other x) k e below s key

pub returns-clause-none : goal.returns-clause-none
returns-clause-none g c = λ m x step key.
    let found = subst (λ l. Contains l m) (sym c.as_slice-m-items.ensures.value) (c.moves-list.ensures.complete m (x, step)) in
    c.loop-m.invariant found.0 m x (omega (arith, found.1))
    (subst (λ n. Step (g.G.Game.game c.args.game.now) c.args.position.now n x) (sym found.2) step) key
