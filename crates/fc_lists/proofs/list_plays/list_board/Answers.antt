use Rattle.std.proofs.Common.{sym, subst}
use Rattle.fc_moves.specs.Run.{Run}
use Rattle.fc_lists.proofs.PlayedLemmas.{come_run}
use Rattle.fc_lists.proofs.list_plays.list_board.Goals as goal

pub last_board-requires-clause-run : goal.last_board-requires-clause-run
last_board-requires-clause-run g c =
    let all = come_run c.args.question.has_sequences (g.G.Game.game c.args.game.now) c.args.start.now _ c.in_ok-steps.steps.items c.in_ok-steps.ensures.come in
    (all.0, subst (λ l. Run (g.G.Game.game c.args.game.now) c.args.start.now l all.0) (sym c.as_slice.ensures.value) all.1)
