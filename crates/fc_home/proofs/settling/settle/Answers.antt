use Rattle.std.proofs.Common.{◌<◌, length, refl, lit<, arith}
use Rattle.fc_cards.specs.declared.places.Place.TheVariants.{Home}
use Rattle.fc_moves.specs.declared.steps.Move.{Move}
use Rattle.fc_cards.specs.Suit.{suit_index}
use Rattle.fc_home.proofs.NextLemmas.{turn_known}
use Rattle.fc_home.proofs.SettleLemmas.{after_turn, after_all, settles_run, turn_total, turn_fits}
use Rattle.fc_home.proofs.settling.settle.Goals as goal

pub push-requires : goal.push-requires
push-requires g c =
    let first = c.in-Some.ensures.first in
    let more = turn_total c.args.rule (g.G.Game.game c.args.game.now) c.loop-goer.position c.shift.new.self c.in-Some.goer.from c.in-Some.goer.card
    c.in-Some.ensures.whole first (c.shift.ensures.after c.in-Some.goer.card first.there) in
    let few : length c.loop-goer.moves.items < 52 = omega (arith, more.0, more.1, c.loop-goer.invariant.count) in (lit< tt, few)

pub loop-goer-smaller : goal.loop-goer-smaller
loop-goer-smaller g c =
    let first = c.in-Some.ensures.first in
    let more = turn_total c.args.rule (g.G.Game.game c.args.game.now) c.loop-goer.position c.shift.new.self c.in-Some.goer.from c.in-Some.goer.card
    c.in-Some.ensures.whole first (c.shift.ensures.after c.in-Some.goer.card first.there) in
    omega (arith, more.0, more.1)

pub loop-goer-preserved : goal.loop-goer-preserved
loop-goer-preserved g c =
    let game = g.G.Game.game c.args.game.now in
    let first = c.in-Some.ensures.first in
    let m : Move = record { from = c.in-Some.goer.from; to = Home } in
    let after = c.shift.ensures.after c.in-Some.goer.card first.there in
    let more = turn_total c.args.rule game c.loop-goer.position c.shift.new.self c.in-Some.goer.from c.in-Some.goer.card
    c.in-Some.ensures.whole first after in
    record {
      settles =
          rw c.push.ensures.items
          (after_turn game c.args.rule c.args.position.now c.loop-goer.position c.shift.new.self c.loop-goer.moves.items m c.in-Some.goer.card
          c.loop-goer.invariant.settles first refl after);
      count = omega (arith, more.0, c.push.ensures.len, c.loop-goer.invariant.count);
      fits = λ fits. turn_fits c.args.rule game c.loop-goer.position c.shift.new.self m c.in-Some.goer.card
          c.in-Some.ensures.whole first refl after (c.loop-goer.invariant.fits fits);
      known =
          turn_known c.args.rule game c.loop-goer.position c.shift.new.self c.in-Some.goer.from c.in-Some.goer.card
          (suit_index c.suit.result) c.first_home.new.known c.send.new.self c.in-Some.ensures.whole first after c.suit.ensures
          c.in-Some.ensures.known c.send.ensures.left;
    }

pub returns-clause-settled : goal.returns-clause-settled
returns-clause-settled g c =
    after_all (g.G.Game.game c.args.game.now) c.args.rule c.args.position.now c.loop-goer.position c.loop-goer.moves.items
    c.loop-goer.invariant.settles c.in_default.ensures.none

pub returns-clause-count : goal.returns-clause-count
returns-clause-count g c = (
  c.loop-goer.moves.items,
  refl,
  after_all (g.G.Game.game c.args.game.now) c.args.rule c.args.position.now c.loop-goer.position c.loop-goer.moves.items
      c.loop-goer.invariant.settles c.in_default.ensures.none,
)

pub returns-clause-run : goal.returns-clause-run
returns-clause-run g c =
    settles_run (g.G.Game.game c.args.game.now) c.args.rule c.args.position.now c.loop-goer.position c.loop-goer.moves.items
    (after_all (g.G.Game.game c.args.game.now) c.args.rule c.args.position.now c.loop-goer.position c.loop-goer.moves.items
    c.loop-goer.invariant.settles c.in_default.ensures.none)
