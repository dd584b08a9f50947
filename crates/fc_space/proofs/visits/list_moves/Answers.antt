use Rattle.std.proofs.Common.{[], refl, arith}
use Rattle.fc_space.proofs.IdleLemmas.{leaves_idle}
use Rattle.fc_space.proofs.visits.list_moves.Goals as goal

pub returns-then-is_first-clause-lists : goal.returns-then-is_first-clause-lists
returns-then-is_first-clause-lists g c =
    leaves_idle (g.G.Game.game c.args.game.now) c.args.position.now c.args.note c.wanted_cards-wanted.result
    c.list_wanted_moves.new.list.items c.list_wanted_moves.result c.list_wanted_moves.ensures.listed c.wanted_cards-wanted.ensures.idle

pub returns-clause-lists : goal.returns-clause-lists
returns-clause-lists g c =
    let classes = c.list_distinct_moves.ensures.classes in (
      [],
      record {
        allowed = classes.allowed;
        complete = classes.complete;
        idle = λ m u there card. absurd (omega (arith, there.1));
      },
      (λ some. absurd (cc some), λ some. absurd (some refl)),
    )
