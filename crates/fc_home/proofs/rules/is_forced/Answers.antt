use Rattle.std.proofs.Common.{sym, subst, refl}
use Rattle.std.specs.Prelude.{Contains}
use Rattle.fc_position.specs.Board.{IsHome}
use Rattle.fc_moves.specs.GameRules.{Stands}
use Rattle.fc_home.proofs.KnownLemmas.{level_forced}
use Rattle.fc_home.proofs.RuleLemmas.{not_forced, all_looked_at}
use Rattle.fc_home.proofs.rules.is_forced.Goals as goal

pub returns-then-not-is_home : goal.returns-then-not-is_home
returns-then-not-is_home g c =
    let game = g.G.Game.game c.args.game.now in
    let host = c.host-item.result in
    let stands : Stands game host c.args.card =
    (c.hosts_of-hosts.ensures.exact host).0 (subst (λ l. Contains l host) c.as_slice-host-items.ensures.value
    (c.loop-host.host-index, c.loop-host-test.true, sym c.host-item.is)) in
    record {
      value = not_forced game c.args.position.now.homes c.args.card host c.is_home.result stands c.is_home.ensures.value c.if-not-is_home.true;
    }

pub returns : goal.returns
returns g c =
    let homes = c.args.position.now.homes in
    record {
      value = (
        λ _. (
          c.is_next.ensures.value.0 c.if-not-is_next.false,
          λ u stands. all_looked_at (IsHome homes) c.hosts_of-hosts.result.items c.as_slice-host-items.result.now
              c.loop-host.host-index u c.as_slice-host-items.ensures.value c.loop-host-test.false c.loop-host.invariant
              ((c.hosts_of-hosts.ensures.exact u).1 stands),
        ),
        λ _. refl,
      );
    }

pub returns-then-is_level : goal.returns-then-is_level
returns-then-is_level g c = record {
  value = (
    λ _. level_forced (g.G.Game.game c.args.game.now) c.args.position.now.homes c.args.card (g.met.G.Game.sound c.args.game.now)
        (c.is_next.ensures.value.0 c.if-not-is_next.false) (c.is_level.ensures.value.0 c.if-is_level.true),
    λ _. refl,
  );
}
