use Rattle.std.proofs.Common.{◌≡◌, None, sym, ◌∙◌, subst}
use Rattle.std.specs.Prelude.{slice_set}
use Rattle.fc_cards.specs.Card.{suit}
use Rattle.fc_home.specs.HomeRule.{GoesHome}
use Rattle.fc_home.specs.inner.Nexts.{HasNexts}
use Rattle.fc_home.proofs.NextLemmas.{nexts_struck, least_first, least_none}
use Rattle.fc_home.proofs.RuleLemmas.{refuted}
use Rattle.fc_home.proofs.settling.first_home.Goals as goal

pub returns-then-goes_home-clause-first : goal.returns-then-goes_home-clause-first
returns-then-goes_home-clause-first g c =
    least_first c.args.rule (g.G.Game.game c.args.game.now) c.args.position.now c.loop-goer.nexts c.in-Some.goer
    c.add_columns.ensures.whole c.loop-goer.invariant.nexts c.in-Some.ensures.least (c.goes_home.ensures.value.0 c.if-goes_home.true)

pub loop-goer-preserved : goal.loop-goer-preserved
loop-goer-preserved g c =
    let game = g.G.Game.game c.args.game.now in
    let b = c.args.position.now in
    let place : c.index.result ≡ suit c.in-Some.goer.card = c.index.ensures.value ∙ c.suit.ensures in
    record {
      nexts =
          subst (λ s. HasNexts (GoesHome c.args.rule game b.homes) b 12 (slice_set c.loop-goer.nexts s None)) (sym place)
          (nexts_struck c.args.rule game b 12 c.loop-goer.nexts c.in-Some.goer c.loop-goer.invariant.nexts c.in-Some.ensures.least
          (refuted c.goes_home.result c.goes_home.ensures.value c.if-goes_home.false));
      known = c.goes_home.ensures.known;
    }

pub returns-clause-none : goal.returns-clause-none
returns-clause-none g c =
    least_none c.args.rule (g.G.Game.game c.args.game.now) c.args.position.now c.loop-goer.nexts c.add_columns.ensures.whole
    c.loop-goer.invariant.nexts c.in_default.ensures.least
