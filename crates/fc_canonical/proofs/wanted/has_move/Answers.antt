use Rattle.std.proofs.Common.{sym, ◌∙◌}
use Rattle.fc_moves.proofs.StepLemmas.{source_there}
use Rattle.fc_canonical.proofs.WantedLemmas.{listed_at_home, listed_in_cell, listed_on_host, listed_on_host_alone, none_there, some_there}
use Rattle.fc_canonical.proofs.wanted.has_move.Goals as goal

pub returns-then-is_some : goal.returns-then-is_some
returns-then-is_some g c =
    let game = g.G.Game.game c.args.game.now in
    let b = c.args.position.now in
    let from = c.args.source.now.from in
    let held = some_there c.args.spaces.cell c.is_some.result c.is_some.ensures c.if-is_some.true in
    record { value = (λ _. listed_in_cell game b from c.args.spaces.cell held.0 c.requires.cell held.1, λ _. cc) }

pub returns-then-is_next : goal.returns-then-is_next
returns-then-is_next g c =
    let game = g.G.Game.game c.args.game.now in
    let b = c.args.position.now in
    let from = c.args.source.now.from in
    let card = c.args.source.now.card in
    record {
      value = (
        λ _. listed_at_home game b from card (source_there b from card c.requires.whole c.requires.card) c.requires.card
            (c.is_next.ensures.value.0 c.if-is_next.true),
        λ _. cc,
      );
    }

pub returns : goal.returns
returns g c =
    let game = g.G.Game.game c.args.game.now in
    let b = c.args.position.now in
    let from = c.args.source.now.from in
    let card = c.args.source.now.card in
    record {
      value = (
        λ holds. listed_on_host game b from card c.requires.whole (g.met.G.Game.sound c.args.game.now) c.requires.card
            (c.has_host.ensures.value.0 holds),
        λ listed. c.has_host.ensures.value.1
            (listed_on_host_alone game b from card c.args.spaces.cell c.opening_of.result c.requires.whole
            (source_there b from card c.requires.whole c.requires.card) c.requires.card c.requires.cell
            c.opening_of.ensures.value
            (none_there c.args.spaces.cell c.is_some.result c.is_some.ensures c.if-is_some.false)
            (λ next. let holds = c.is_next.ensures.value.1 next in absurd (cc (sym c.if-is_next.false ∙ holds)))
            (none_there c.opening_of.result c.is_some-2.result c.is_some-2.ensures c.if-is_some-2.false) listed),
      );
    }
