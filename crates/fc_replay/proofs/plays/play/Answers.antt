use Rattle.std.proofs.Common.{sym, ap, subst}
use Rattle.fc_io.proofs.MoveLemmas.{sound_at_ok}
use Rattle.fc_moves.proofs.StepLemmas.{allowed_has_text}
use Rattle.fc_moves.specs.MoveText.{HasText}
use Rattle.fc_replay.proofs.PageLemmas.{page_front, page_taken}
use Rattle.fc_replay.specs.Played.{PlaysAs, sink_change}
use Rattle.fc_replay.proofs.ListLoop.{moves_from, way_allowed, way_next, way_failed}
use Rattle.fc_replay.proofs.ReplayLoop.{err_is}
use Rattle.fc_replay.proofs.plays.play.Goals as goal

pub apply-requires : goal.apply-requires
apply-requires g c = record {
  allowed = way_allowed _ _ _ _ _ _ _ _ _ _ _ _ _ c.loop-m.invariant (moves_from _ _ _ c.loop-m-test.true);
}

pub write_page-requires-clause-has_text : goal.write_page-requires-clause-has_text
write_page-requires-clause-has_text g c =
    subst HasText (sym (ap (λ t. t.m) c.of-told.ensures.value))
    (allowed_has_text _ _ _ c.loop-m.invariant.course.position.position (_, c.apply.ensures.step))

pub returns-in_err-write_page-clause-played : goal.returns-in_err-write_page-clause-played
returns-in_err-write_page-clause-played g c =
    subst (PlaysAs c.args.page (g.G.Game.game c.args.game.now) c.args.position.now c.args.moves.now (sink_change (g.K.Sink.held c.args.sink.now) (g.K.Sink.held c.write_page.new.sink)))
    (err_is _ _ c.from_residual.result c.from_residual.ensures)
    (way_failed _ _ _ _ _ _ _ _ _ _ _ _ _ _ _ _ _ c.loop-m.invariant (moves_from _ _ _ c.loop-m-test.true) c.apply.ensures.step
    c.cells.ensures.value (page_front _ _ _ _ _ _ _ c.of-told.ensures.value c.in_err-write_page.ensures.front))

pub loop-m-preserved : goal.loop-m-preserved
loop-m-preserved g c =
    way_next _ _ _ _ _ _ _ _ _ _ _ _ _ _ _ _ _ c.loop-m.invariant (moves_from _ _ _ c.loop-m-test.true) c.apply.ensures.step
    c.cells.ensures.value (page_taken _ _ _ _ _ _ _ c.of-told.ensures.value c.in_ok-write_page.ensures.whole)
    (sound_at_ok _ c.in_ok-write_page.ensures.stays) (sound_at_ok _ c.in_ok-write_page.ensures.fault.1)
