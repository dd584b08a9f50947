use Rattle.std.proofs.Common.{rules, ◌≡◌, ◌≢◌, ◌+◌, ◌↔◌, ℕ, IsTrue, false, length, sym, ◌∙◌, subst, arith}
use Rattle.fc_cards.specs.declared.places.Place.TheVariants.{Home}
use Rattle.fc_position.specs.Board.{board_without}
use Rattle.fc_moves.proofs.BackLemmas.{IsTakenBack, taken_back}
use Rattle.fc_home.specs.Settles.{Settles}
use Rattle.fc_bound.proofs.LiftedLemmas.{columns_lifted}
use Rattle.fc_checker.specs.Check.{Holds, level}
use Rattle.fc_checker.specs.inner.Lookups.{IsLookupOf}
use Rattle.fc_checker.proofs.LookupLemmas.{looked_alike}
use Rattle.fc_checker.proofs.StepLemmas.{stays, step_told}
use Rattle.fc_checker.proofs.record_steps.step_holds.Goals as goal

pub put-requires : goal.put-requires
put-requires g c =
    let game = g.G.Game.game c.args.game.now in
    let other : c.args.m.to ≢ Home = λ e. let is : c.ne.result ≡ false = search rules in cc in
    let still = stays game c.rule.result c.apply.new.position c.settle.new.position c.settle.result.items
    (sym c.len-sent.ensures.value ∙ c.if-sent-eq0.true) c.settle.ensures.settled in
    let columns = columns_lifted game c.args.position.now c.apply.new.position c.args.m c.apply.ensures.step other in
    record {
      lookup = subst (λ y. IsLookupOf (board_without y c.args.m.to) c.lift.new.self) (sym still)
          (looked_alike (board_without c.args.position.now c.args.m.from) (board_without c.apply.new.position c.args.m.to) c.lift.new.self columns c.lift.ensures.lookup);
    }

pub shift-requires : goal.shift-requires
shift-requires g c =
    let game = g.G.Game.game c.args.game.now in
    let other : c.args.m.to ≢ Home = λ e. let is : c.ne.result ≡ false = search rules in cc in
    let still = stays game c.rule.result c.apply.new.position c.settle.new.position c.settle.result.items
    (sym c.len-sent.ensures.value ∙ c.if-sent-eq0.true) c.settle.ensures.settled in
    let back = subst (λ y. IsTakenBack c.args.position.now y c.args.m.from c.args.m.to c.apply.ensures.step.card) (sym still)
    (taken_back game c.args.position.now c.apply.new.position c.args.m c.apply.ensures.step other) in
    record { moves = (c.apply.ensures.step.card, back.there, back.receives) }

pub put-requires-then-ne : goal.put-requires-then-ne
put-requires-then-ne g c =
    let game = g.G.Game.game c.args.game.now in
    let other : c.args.m.to ≢ Home = λ e. let is : c.ne.result ≡ false = search rules in cc in
    let still = stays game c.rule.result c.apply.new.position c.settle.new.position c.settle.result.items
    (sym c.len-sent.ensures.value ∙ c.if-sent-eq0.true) c.settle.ensures.settled in
    let back = subst (λ y. IsTakenBack c.args.position.now y c.args.m.from c.args.m.to c.apply.ensures.step.card) (sym still)
    (taken_back game c.args.position.now c.apply.new.position c.args.m c.apply.ensures.step other) in
    let same = sym (c.shift.ensures.after c.apply.ensures.step.card back.there ∙ back.back) in
    let columns = columns_lifted game c.args.position.now c.apply.new.position c.args.m c.apply.ensures.step other in
    record {
      lookup = subst (λ y. IsLookupOf (board_without y c.args.m.from) c.lift-then-ne.new.self) same
          (looked_alike (board_without c.apply.new.position c.args.m.to) (board_without c.args.position.now c.args.m.from) c.lift-then-ne.new.self (sym columns)
          (subst (λ y. IsLookupOf (board_without y c.args.m.to) c.lift-then-ne.new.self) still c.lift-then-ne.ensures.lookup));
    }

pub returns-then-ne-clause-value : goal.returns-then-ne-clause-value
returns-then-ne-clause-value g c =
    let game = g.G.Game.game c.args.game.now in
    let content = c.args.certificate.now in
    let next = c.settle.new.position in
    let count = length c.settle.result.items in
    let cost = c.args.parent.now.cost in
    let settles = subst (λ r. Settles game r c.apply.new.position count next) c.rule.ensures.value c.settle.ensures.count in
    let none : c.from-moves.result + 1 ≡ cost + 1 + count = omega (arith, c.from-moves.ensures, c.len-sent.ensures.value, c.if-sent-eq0.true) in
    let test = subst (λ (n : ℕ). IsTrue c.holds-holds.result ↔ Holds content (level content) next n) none c.holds-holds.ensures.value in
    step_told game content c.args.position.now c.apply.new.position next c.args.m cost count c.holds-holds.result c.apply.ensures.whole c.apply.ensures.step
    settles test

pub returns-then-ne-clause-same : goal.returns-then-ne-clause-same
returns-then-ne-clause-same g c =
    let game = g.G.Game.game c.args.game.now in
    let other : c.args.m.to ≢ Home = λ e. let is : c.ne.result ≡ false = search rules in cc in
    let still = stays game c.rule.result c.apply.new.position c.settle.new.position c.settle.result.items
    (sym c.len-sent.ensures.value ∙ c.if-sent-eq0.true) c.settle.ensures.settled in
    let back = subst (λ y. IsTakenBack c.args.position.now y c.args.m.from c.args.m.to c.apply.ensures.step.card) (sym still)
    (taken_back game c.args.position.now c.apply.new.position c.args.m c.apply.ensures.step other) in
    c.shift.ensures.after c.apply.ensures.step.card back.there ∙ back.back

pub returns-clause-value : goal.returns-clause-value
returns-clause-value g c =
    let game = g.G.Game.game c.args.game.now in
    let content = c.args.certificate.now in
    let next = c.settle.new.position in
    let count = length c.settle.result.items in
    let cost = c.args.parent.now.cost in
    let settles = subst (λ r. Settles game r c.apply.new.position count next) c.rule.ensures.value c.settle.ensures.count in
    let all : c.from-moves.result + 1 + c.len-sent.result ≡ cost + 1 + count = omega (arith, c.from-moves.ensures, c.len-sent.ensures.value) in
    let test = subst (λ (n : ℕ). IsTrue c.holds-holds-2.result ↔ Holds content (level content) next n) all c.holds-holds-2.ensures.value in
    step_told game content c.args.position.now c.apply.new.position next c.args.m cost count c.holds-holds-2.result c.apply.ensures.whole c.apply.ensures.step
    settles test
