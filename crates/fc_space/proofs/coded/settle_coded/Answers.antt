use Rattle.std.proofs.Common.{subst}
use Rattle.std.specs.Prelude.{slice_index}
use Rattle.fc_home.specs.Settles.{SettlesBy}
use Rattle.fc_space.specs.inner.Codes.{IsSent, WentHome}
use Rattle.fc_space.proofs.SentLemmas.{settled_code}
use Rattle.fc_space.proofs.coded.settle_coded.Goals as goal

pub returns-clause-coded : goal.returns-clause-coded
returns-clause-coded g c =
    λ s coded.
    let rules = g.G.Game.game c.args.game.now in
    let b = c.args.position.now in
    let q = c.settle-settling.new.position in
    let k = c.args.code in
    let l = c.with_sent.result in
    let settles = subst (λ r. SettlesBy rules r b c.settle-settling.result.items q) c.get.ensures.value c.settle-settling.ensures.settled in
    settled_code rules c.args.rule s b q c.settle-settling.result.items k l (g.met.G.Game.sound c.args.game.now)
    c.counts-before.ensures.whole coded settles c.with_sent.ensures.count
    (λ x below. subst (λ h. IsSent (WentHome h q.homes x) (slice_index k x) (slice_index l x)) c.counts-before.ensures.value
    (c.with_sent.ensures.value x below))
