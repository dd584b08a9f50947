use Rattle.std.proofs.Common.{rules, ◌≡◌, cond, Some, refl, ap, sym, subst}
use Rattle.fc_library.specs.Replays.{CanBeReplayed}
use Rattle.fc_library.proofs.SequenceLemmas.{expanded_runs, refused_for, told_for}
use Rattle.fc_library.specs.Sequences.{IsSequencesRefused}
use Rattle.fc_library.proofs.told_sequences.replay_sequences.Goals as goal

pub returns-in-Err-expand_entries-clause-refused : goal.returns-in-Err-expand_entries-clause-refused
returns-in-Err-expand_entries-clause-refused c =
    let given : CanBeReplayed c.args.name c.args.board.now c.args.list.now c.in-Ok.start = search rules in
    subst (IsSequencesRefused c.args.name c.args.board.now c.args.list.now) (sym c.refusal_of.ensures.value)
    (refused_for c.args.name c.args.board.now c.args.list.now c.in-Ok.start given _ c.in-Some.ensures.value c.in-Err-expand_entries.fault
    c.in-Err-expand_entries.ensures.fault)

pub play-requires-clause-run : goal.play-requires-clause-run
play-requires-clause-run c = expanded_runs _ _ _ _ _ c.in-Ok-expand_entries.ensures.expanded c.as_slice.ensures.value

pub returns-in-Ok-play-clause-told : goal.returns-in-Ok-play-clause-told
returns-in-Ok-play-clause-told c =
    let given : CanBeReplayed c.args.name c.args.board.now c.args.list.now c.in-Ok.start = search rules in
    let status : c.if-ended.result ≡ cond c.in-Ok-play.ended.is_won 0 3 = search rules in
    let bytes : Some c.play.new.sink.bytes ≡ Some c.into_bytes.result.items = search rules in
    told_for c.args.name c.args.board.now c.args.list.now c.in-Ok.start given _ c.in-Some.ensures.value _ _ c.in-Ok-expand_entries.ensures.expanded
    c.as_slice.ensures.value _ _ _ c.in-Ok-play.ensures.played (ap Some c.new-boards.ensures.empty) _ bytes refl status refl
