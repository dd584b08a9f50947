use Rattle.std.proofs.Common.{◌≡◌, ◌+◌, ◌≤◌, length, subst, sym, ◌∙◌, arith}
use Rattle.std.specs.Cmp.{unsigned_Decides}
use Rattle.std.specs.Cmp.Lexicographic.{pointwise_decides}
use Rattle.fc_moves.specs.Step.{Step}
use Rattle.fc_codes.specs.State.{IsCodeOf}
use Rattle.fc_codes.proofs.StateLemmas.{code_once}
use Rattle.fc_space.specs.Children.{frame_of}
use Rattle.fc_space.specs.Ways.{LeadsWithin}
use Rattle.fc_space.proofs.WayLemmas.{leads_once, code_moved}
use Rattle.fc_space.proofs.ways.way_by.Goals.{else-len-most-via-then-len-most+else-eq, else-len-most-via-else-len-most}
use Rattle.fc_space.proofs.ways.way_by.Goals as goal

pub returns-then-eq : goal.returns-then-eq
returns-then-eq g c =
    let own = c.args.space.now in
    let w = frame_of (g.G.Game.game own.rules.game) own.rules.rule own.rules.kind own.start in
    let b = c.args.position.now in
    let z = c.apply.new.position in
    let q = c.settle_coded-settling.new.position in
    let after = c.moved-after.result in
    let l = c.settle_coded-settling.result.1 in
    let step : Step w.game b c.args.m z = subst (λ v. Step w.game v c.args.m z) c.copy-next.ensures.value c.apply.ensures.step in
    let moved = code_moved own.layout c.args.from.now b z c.args.m w.game after (g.met.G.Game.sound own.rules.game)
    c.moved-after.ensures.whole (subst (λ s. IsCodeOf s b c.args.from.now) (sym own.laid) c.requires.from) step c.moved-after.ensures.value in
    let coded = c.settle_coded-settling.ensures.coded own.start (subst (λ s. IsCodeOf s z after) own.laid moved) in
    let same : l ≡ c.args.to.now = (pointwise_decides unsigned_Decides l c.args.to.now).0 (sym c.eq.ensures ∙ c.if-eq.true) in
    record {
      value = (
        z,
        step,
        c.settle_coded-settling.ensures.settled,
        subst (IsCodeOf own.start q) same coded,
        (let few = c.if-len-most.true in let size = c.len.ensures.value in omega (arith, few, size)),
      );
    }

pub returns : goal.returns
returns g c =
    let own = c.args.space.now in
    let w = frame_of (g.G.Game.game own.rules.game) own.rules.rule own.rules.kind own.start in
    let b = c.args.position.now in
    let m = c.args.m in
    let most = c.args.most in
    let z = c.apply.new.position in
    let q = c.settle_coded-settling.new.position in
    let settling = c.settle_coded-settling.result.0.items in
    let after = c.moved-after.result in
    let l = c.settle_coded-settling.result.1 in
    let to = c.args.to.now in
    let size : length settling ≡ c.len.result = sym c.len.ensures.value in
    let step : Step w.game b m z = subst (λ v. Step w.game v m z) c.copy-next.ensures.value c.apply.ensures.step in
    let moved = code_moved own.layout c.args.from.now b z m w.game after (g.met.G.Game.sound own.rules.game)
    c.moved-after.ensures.whole (subst (λ s. IsCodeOf s b c.args.from.now) (sym own.laid) c.requires.from) step c.moved-after.ensures.value in
    let coded = c.settle_coded-settling.ensures.coded own.start (subst (λ s. IsCodeOf s z after) own.laid moved) in
    let there : LeadsWithin w b to most m → IsCodeOf w.start q to × (1 + length settling ≤ most) =
    leads_once w b z q to m most settling c.apply.ensures.whole step c.settle_coded-settling.ensures.settled in
    elim c.else-len-most.branch [
      | else-len-most-via-then-len-most+else-eq w ↦ record {
        value = (
            λ leads.
            let same = code_once own.start q l to c.settle_coded-settling.ensures.whole coded (there leads).0 in
            let yes = w.eq.ensures ∙ (pointwise_decides unsigned_Decides l to).1 same in
            let no = w.if-eq.false in cc
            );
      }
      | else-len-most-via-else-len-most w ↦ record {
        value = (λ leads. absurd (let le = (there leads).1 in let past = w.if-len-most.false in omega (arith, le, size, past)));
      }
    ]
