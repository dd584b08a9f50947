use Rattle.std.proofs.Common.{◌⊎◌, ◌↔◌, true, false, refl, sym, ◌∙◌, ap, subst, arith}
use Rattle.std.specs.Prelude.{Contains, IsTrue}
use Rattle.fc_position.specs.Board.{IsHome}
use Rattle.fc_moves.specs.GameRules.{Stands}
use Rattle.fc_home.specs.HomeRule.{IsFree}
use Rattle.fc_cards.specs.Suit.{suit_index}
use Rattle.fc_home.specs.inner.Known.{answer_of}
use Rattle.fc_home.proofs.KnownLemmas.{known_tells, known_keep, level_free}
use Rattle.fc_home.proofs.RuleLemmas.{host_lower, not_free, free_by_hosts, all_looked_at}
use Rattle.fc_home.proofs.rules.+is_free.Goals as goal

pub is_free-requires : goal.is_free-requires
is_free-requires g t c κs within =
    let game = g.G.Game.game c.args.game.now in
    let host = c.host-item.result in
    let stands : Stands game host c.args.card =
    (c.hosts_of-hosts.ensures.exact host).0 (subst (λ l. Contains l host) c.as_slice-host-items.ensures.value
    (c.loop-host.host-index, c.loop-host-test.true, sym c.host-item.is)) in (
      omega (arith, host_lower game host c.args.card (g.met.G.Game.sound c.args.game.now) stands),
      (within, c.loop-host.invariant.known),
    )

pub returns-then-not-is_free : goal.returns-then-not-is_free
returns-then-not-is_free g t c =
    let game = g.G.Game.game c.args.game.now in
    let homes = c.args.position.now.homes in
    let host = c.host-item.result in
    let stands : Stands game host c.args.card =
    (c.hosts_of-hosts.ensures.exact host).0 (subst (λ l. Contains l host) c.as_slice-host-items.ensures.value
    (c.loop-host.host-index, c.loop-host-test.true, sym c.host-item.is)) in
    let told : IsTrue false ↔ IsFree game homes c.args.card =
    not_free game homes c.args.card host c.is_home.result c.is_free.result (g.met.G.Game.sound c.args.game.now) stands
    c.is_home.ensures.value c.if-not-is_home.true c.is_free.ensures.value c.if-not-is_free.true in
    record {
      value = subst (λ x. IsTrue x ↔ IsFree game homes c.args.card) (sym c.keep.ensures.value) told;
      known =
          known_keep game homes c.is_free.new.known c.keep.new.self c.args.card (suit_index c.suit-then-not-is_free.result) false
          c.is_free.ensures.known (c.is_next.ensures.value.0 c.if-not-is_next.false) c.suit-then-not-is_free.ensures told
          c.keep.ensures.kept c.keep.ensures.rest;
    }

pub returns : goal.returns
returns g t c =
    let game = g.G.Game.game c.args.game.now in
    let homes = c.args.position.now.homes in
    let next = c.is_next.ensures.value.0 c.if-not-is_next.false in
    let told : IsTrue true ↔ IsFree game homes c.args.card = (
      λ _. free_by_hosts game homes c.args.card (g.met.G.Game.sound c.args.game.now) next
          (λ u stands. all_looked_at (λ n. IsHome homes n ⊎ IsFree game homes n) c.hosts_of-hosts.result.items c.as_slice-host-items.result.now
          c.loop-host.host-index u c.as_slice-host-items.ensures.value c.loop-host-test.false c.loop-host.invariant.looked
          ((c.hosts_of-hosts.ensures.exact u).1 stands)),
      λ _. refl,
    ) in
    record {
      value = subst (λ x. IsTrue x ↔ IsFree game homes c.args.card) (sym c.keep-2.ensures.value) told;
      known =
          known_keep game homes c.loop-host.known c.keep-2.new.self c.args.card (suit_index c.suit-2.result) true
          c.loop-host.invariant.known next c.suit-2.ensures told c.keep-2.ensures.kept c.keep-2.ensures.rest;
    }

pub returns-then-is_level-clause-value : goal.returns-then-is_level-clause-value
returns-then-is_level-clause-value g t c = (
  λ _. level_free (g.G.Game.game c.args.game.now) c.args.position.now.homes c.args.card (g.met.G.Game.sound c.args.game.now)
      (c.is_next.ensures.value.0 c.if-not-is_next.false) (c.is_level.ensures.value.0 c.if-is_level.true),
  λ _. refl,
)

pub returns-in-Some-clause-value : goal.returns-in-Some-clause-value
returns-in-Some-clause-value g t c =
    known_tells (g.G.Game.game c.args.game.now) c.args.position.now.homes c.args.known.now c.args.card c.in-Some.answer c.requires.known
    (c.is_next.ensures.value.0 c.if-not-is_next.false)
    (ap (answer_of c.args.known.now) (sym c.suit.ensures) ∙ sym c.of.ensures.value ∙ c.in-Some.is)
