use Rattle.std.proofs.Common.{rules, ◌<◌, ◌≤◌, length, Ok, Err, refl, sym, subst}
use Rattle.std.specs.Prelude.{IsTrue}
use Rattle.fc_moves.specs.Run.{Run}
use Rattle.fc_sequences.proofs.RunLemmas.{expands_run}
use Rattle.fc_replay.specs.Played.{PlaysAs, sink_change}
use Rattle.fc_replay.specs.Token.{move_tokens}
use Rattle.fc_board_runs.specs.Devices.{Device, GivesWhole, change}
use Rattle.fc_lists.specs.Plays.{IsExpanded, IsUnplayed}
use Rattle.fc_lists.proofs.ExpandedLemmas.{whole_front}
use Rattle.fc_board_runs.specs.Sequences.{IsListFaultAs}
use Rattle.fc_board_runs.proofs.SequenceLemmas.{left_for, none_made}
use Rattle.fc_board_runs.proofs.sequences.run_replay_sequences.Goals as goal

pub returns-in-Err-expand_entries-clause-fault : goal.returns-in-Err-expand_entries-clause-fault
returns-in-Err-expand_entries-clause-fault g c =
    let moves : Device = change g.M.Source.told g.M.Source.has_failed c.args.moves.now c.read_to_vec.new.source in
    let sink : Device = change g.K.Sink.held g.K.Sink.has_failed c.args.out.now c.args.out.now in
    let read : GivesWhole moves c.in-Ok.text.items = search rules in
    let short : length c.as_slice.result.now ≤ 1048576 = search rules in
    let all : IsUnplayed (g.G.Game.game c.args.game.now) c.args.start.now (move_tokens c.as_slice.result.now) c.in-Err-expand_entries.fault =
    subst (λ l. IsUnplayed (g.G.Game.game c.args.game.now) c.args.start.now l c.in-Err-expand_entries.fault)
    (whole_front c.as_slice.result.now 1048576 short) c.in-Err-expand_entries.ensures.fault in
    let why : IsUnplayed (g.G.Game.game c.args.game.now) c.args.start.now (move_tokens c.in-Ok.text.items) c.in-Err-expand_entries.fault =
    subst (λ l. IsUnplayed (g.G.Game.game c.args.game.now) c.args.start.now (move_tokens l) c.in-Err-expand_entries.fault)
    c.as_slice.ensures.value all in
    subst (IsListFaultAs c.args.page (g.G.Game.game c.args.game.now) c.args.start.now moves sink) (sym c.from.ensures)
    (left_for c.args.page (g.G.Game.game c.args.game.now) c.args.start.now moves sink c.in-Ok.text.items read refl c.in-Err-expand_entries.fault why)

pub play-requires-clause-run : goal.play-requires-clause-run
play-requires-clause-run g c =
    let all = c.in-Ok-expand_entries.ensures.expanded in (
      all.last,
      subst (λ l. Run (g.G.Game.game c.args.game.now) c.args.start.now l all.last) (sym c.as_slice-2.ensures.value)
          (expands_run (g.G.Game.game c.args.game.now) c.args.start.now all.last all.pairs c.in-Ok-expand_entries.expansion.moves.items all.expanded),
    )

pub returns-in-Ok-play-clause-played : goal.returns-in-Ok-play-clause-played
returns-in-Ok-play-clause-played g c =
    let moves : Device = change g.M.Source.told g.M.Source.has_failed c.args.moves.now c.read_to_vec.new.source in
    let sink : Device = change g.K.Sink.held g.K.Sink.has_failed c.args.out.now c.play.new.sink in
    let read : GivesWhole moves c.in-Ok.text.items = search rules in
    let short : length c.as_slice.result.now ≤ 1048576 = search rules in
    let all : IsExpanded (g.G.Game.game c.args.game.now) c.args.start.now (move_tokens c.as_slice.result.now) c.in-Ok-expand_entries.expansion.moves.items =
    subst (λ l. IsExpanded (g.G.Game.game c.args.game.now) c.args.start.now l c.in-Ok-expand_entries.expansion.moves.items)
    (whole_front c.as_slice.result.now 1048576 short) c.in-Ok-expand_entries.ensures.expanded in
    let expanded : IsExpanded (g.G.Game.game c.args.game.now) c.args.start.now (move_tokens c.in-Ok.text.items) c.in-Ok-expand_entries.expansion.moves.items =
    subst (λ l. IsExpanded (g.G.Game.game c.args.game.now) c.args.start.now (move_tokens l) c.in-Ok-expand_entries.expansion.moves.items)
    c.as_slice.ensures.value all in
    let played : PlaysAs c.args.page (g.G.Game.game c.args.game.now) c.args.start.now c.in-Ok-expand_entries.expansion.moves.items (sink_change sink.old sink.new) (Ok c.in-Ok-play.ended) =
    subst (λ l. PlaysAs c.args.page (g.G.Game.game c.args.game.now) c.args.start.now l (sink_change sink.old sink.new) (Ok c.in-Ok-play.ended))
    c.as_slice-2.ensures.value c.in-Ok-play.ensures.played in
    record {
      play = record {
        text = c.in-Ok.text.items;
        read = read;
        steps = c.in-Ok-expand_entries.expansion.moves.items;
        expanded = expanded;
        played = played;
      };
      sound = λ failed.
          none_made c.in-Ok-expand_entries.expansion.moves.items c.play.result c.in-Ok-play.ended (IsTrue (g.K.Sink.has_failed c.args.out.now)) c.in-Ok-play.is
          (c.play.ensures.fault.0 failed)
          (λ before some. c.play.ensures.stays before (subst (λ l. 0 < length l) (sym c.as_slice-2.ensures.value) some));
    }

pub returns-clause-fault : goal.returns-clause-fault
returns-clause-fault g c =
    let moves : Device = change g.M.Source.told g.M.Source.has_failed c.args.moves.now c.read_to_vec.new.source in
    let sink : Device = change g.K.Sink.held g.K.Sink.has_failed c.args.out.now c.play.new.sink in
    let read : GivesWhole moves c.in-Ok.text.items = search rules in
    let short : length c.as_slice.result.now ≤ 1048576 = search rules in
    let all : IsExpanded (g.G.Game.game c.args.game.now) c.args.start.now (move_tokens c.as_slice.result.now) c.in-Ok-expand_entries.expansion.moves.items =
    subst (λ l. IsExpanded (g.G.Game.game c.args.game.now) c.args.start.now l c.in-Ok-expand_entries.expansion.moves.items)
    (whole_front c.as_slice.result.now 1048576 short) c.in-Ok-expand_entries.ensures.expanded in
    let expanded : IsExpanded (g.G.Game.game c.args.game.now) c.args.start.now (move_tokens c.in-Ok.text.items) c.in-Ok-expand_entries.expansion.moves.items =
    subst (λ l. IsExpanded (g.G.Game.game c.args.game.now) c.args.start.now (move_tokens l) c.in-Ok-expand_entries.expansion.moves.items)
    c.as_slice.ensures.value all in
    let played : PlaysAs c.args.page (g.G.Game.game c.args.game.now) c.args.start.now c.in-Ok-expand_entries.expansion.moves.items (sink_change sink.old sink.new) (Err c.in-Err-play.field-0) =
    subst (λ l. PlaysAs c.args.page (g.G.Game.game c.args.game.now) c.args.start.now l (sink_change sink.old sink.new) (Err c.in-Err-play.field-0))
    c.as_slice-2.ensures.value c.in-Err-play.ensures.played in
    let failed : IsTrue sink.failed = search rules in (
      (c.in-Err-play.field-0, record { text = c.in-Ok.text.items; read = read; steps = c.in-Ok-expand_entries.expansion.moves.items; expanded = expanded; played = played }),
      failed,
    )
