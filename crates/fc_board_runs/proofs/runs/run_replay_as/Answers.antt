use Rattle.std.proofs.Common.{rules, ◌≡◌, Ok, IsTrue, sym, ap, subst, ⊎_elim}
use Rattle.fc_replay.specs.Played.{ReplaysAs, BeginsWithStep, sink_change}
use Rattle.fc_replay.specs.Token.{move_tokens}
use Rattle.fc_board_runs.specs.Devices.{Device, GivesWhole, change}
use Rattle.fc_board_runs.specs.Runs.{IsReplayAs}
use Rattle.fc_board_runs.proofs.ReplayLemmas.{none_played}
use Rattle.fc_board_runs.proofs.runs.run_replay_as.Goals as goal

pub returns-in-Ok-replay_as-clause-replayed : goal.returns-in-Ok-replay_as-clause-replayed
returns-in-Ok-replay_as-clause-replayed g c =
    let moves : Device = change g.M.Source.told g.M.Source.has_failed c.args.moves.now c.read_to_vec.new.source in
    let sink : Device = change g.K.Sink.held g.K.Sink.has_failed c.args.out.now c.replay_as.new.sink in
    let replayed : ReplaysAs c.args.page (g.G.Game.game c.args.game.now) c.args.start.now (move_tokens c.in-Ok.text.items) (sink_change sink.old sink.new) (Ok c.in-Ok-replay_as.ended) =
    search rules in
    let read : GivesWhole moves c.in-Ok.text.items = search rules in
    let whole : IsReplayAs c.args.page (g.G.Game.game c.args.game.now) c.args.start.now moves sink (Ok c.in-Ok-replay_as.ended) = record {
      text = c.in-Ok.text.items;
      read = read;
      replayed = replayed;
    } in
    let same : move_tokens c.as_slice.result.now ≡ move_tokens c.in-Ok.text.items = ap move_tokens c.as_slice.ensures.value in
    let never : IsTrue (g.K.Sink.has_failed c.args.out.now) → BeginsWithStep (g.G.Game.game c.args.game.now) c.args.start.now (move_tokens c.in-Ok.text.items) → ⊥ =
    λ failed begins.
    let write = c.replay_as.ensures.stays failed
    (subst (λ tokens. BeginsWithStep (g.G.Game.game c.args.game.now) c.args.start.now tokens) (sym same) begins) in
    let is = c.in-Ok-replay_as.is in
    absurd (cc (write, is)) in
    record {
      replay = whole;
      sound = λ failed.
          ⊎_elim
          (λ write. let is = c.in-Ok-replay_as.is in absurd (cc (write, is)))
          (λ before. none_played (g.G.Game.game c.args.game.now) c.args.start.now (move_tokens c.in-Ok.text.items) replayed.boards replayed.ends.1 (never before))
          (c.replay_as.ensures.fault.0 failed);
    }
