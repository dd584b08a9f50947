use Rattle.std.proofs.Common.{rules, refl, sym, subst}
use Rattle.std.specs.Prelude.{All}
use Rattle.fc_moves.specs.MoveText.{HasText}
use Rattle.fc_moves.specs.Run.{Run}
use Rattle.fc_replay.specs.Token.{move_tokens}
use Rattle.fc_board_runs.specs.Devices.{Device, GivesWhole, change}
use Rattle.fc_lists.specs.Plays.{IsListUnanswered}
use Rattle.fc_lists.proofs.PlayedLemmas.{come_run, run_texts}
use Rattle.fc_board_runs.specs.Lists.{IsNotAnswered}
use Rattle.fc_board_runs.proofs.ListLemmas.{open_for}
use Rattle.fc_board_runs.proofs.list_questions.run_list.Goals as goal

pub returns-in-Err-list_moves-clause-fault : goal.returns-in-Err-list_moves-clause-fault
returns-in-Err-list_moves-clause-fault g c =
    let moves : Device = change g.M.Source.told g.M.Source.has_failed c.args.moves.now c.read_to_vec.new.source in
    let sink : Device = change g.K.Sink.held g.K.Sink.has_failed c.args.out.now c.args.out.now in
    let read : GivesWhole moves c.in-Ok.text.items = search rules in
    let why : IsListUnanswered c.args.question (g.G.Game.game c.args.game.now) c.args.start.now (move_tokens c.in-Ok.text.items) c.in-Err-list_moves.fault =
    subst (λ l. IsListUnanswered c.args.question (g.G.Game.game c.args.game.now) c.args.start.now (move_tokens l) c.in-Err-list_moves.fault)
    c.as_slice.ensures.value c.in-Err-list_moves.ensures.fault in
    subst (IsNotAnswered c.args.question (g.G.Game.game c.args.game.now) c.args.start.now moves sink) (sym c.from.ensures)
    (open_for c.args.question (g.G.Game.game c.args.game.now) c.args.start.now moves sink c.in-Ok.text.items read refl c.in-Err-list_moves.fault why)

pub last_board-last-requires-clause-run : goal.last_board-last-requires-clause-run
last_board-last-requires-clause-run g c =
    let all = come_run c.args.question.has_sequences (g.G.Game.game c.args.game.now) c.args.start.now _ c.in-Ok-list_moves.steps.items c.in-Ok-list_moves.ensures.come in
    (all.0, subst (λ l. Run (g.G.Game.game c.args.game.now) c.args.start.now l all.0) (sym c.as_slice-2.ensures.value) all.1)

pub wanted_text-requires-clause-texts : goal.wanted_text-requires-clause-texts
wanted_text-requires-clause-texts g c =
    let run : Run (g.G.Game.game c.args.game.now) c.args.start.now c.in-Ok-list_moves.steps.items c.last_board-last.result =
    subst (λ l. Run (g.G.Game.game c.args.game.now) c.args.start.now l c.last_board-last.result) c.as_slice-2.ensures.value c.last_board-last.ensures.run in
    subst (All HasText) (sym c.as_slice-3.ensures.value)
    (run_texts (g.G.Game.game c.args.game.now) c.args.start.now c.last_board-last.result c.in-Ok-list_moves.steps.items c.requires.fits run)
