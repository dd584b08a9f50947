use Rattle.std.proofs.Common.{ℕ, ◌↔◌, IsTrue, length, sym, ◌∙◌, subst, zero-add}
use Rattle.fc_home.specs.Settles.{Settles}
use Rattle.fc_checker.specs.Check.{Holds, level}
use Rattle.fc_checker.proofs.StepLemmas.{settled_once}
use Rattle.fc_checker.proofs.record_steps.start_holds.Goals as goal

pub returns : goal.returns
returns g c =
    let rules = g.G.Game.game c.args.game.now in
    let content = c.args.certificate.now in
    let next = c.settle.new.position in
    let count = length c.settle.result.items in
    let settles = subst (λ r. Settles rules r c.args.position.now count next) c.rule.ensures.value c.settle.ensures.count in
    let test = subst (λ (n : ℕ). IsTrue c.holds.result ↔ Holds content (level content) next n) (c.len-count.ensures.value ∙ sym (zero-add count))
    c.holds.ensures.value in
    record { value = settled_once rules content c.args.position.now next count 0 c.holds.result c.requires.whole settles test }
