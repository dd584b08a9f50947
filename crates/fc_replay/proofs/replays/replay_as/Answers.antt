use Rattle.std.proofs.Common.{sym, ◌∙◌, ap, subst, arith}
use Rattle.std.proofs.lemmas.Bool.{false≢true}
use Rattle.fc_io.proofs.MoveLemmas.{sound_at_ok}
use Rattle.fc_position.specs.Position.{Fits, IsPosition}
use Rattle.fc_replay.proofs.PageLemmas.{page_front, page_taken}
use Rattle.fc_replay.specs.Played.{ReplaysAs, sink_change}
use Rattle.fc_replay.specs.Token.{move_tokens}
use Rattle.fc_replay.proofs.ReplayLoop.{so_none, so_room, so_next, so_bad, so_refused, so_failed, so_all, stays_bad, stays_refused, err_is}
use Rattle.fc_replay.proofs.replays.replay_as.Goals as goal

pub loop-token-init : goal.loop-token-init
loop-token-init g c =
    so_none _ _ _ _ _ _ _ _ (ap (λ i. i.rest.now) c.into_iter-token-iterator.ensures.into_iter_gives ∙ c.new-token-items.ensures.rest) c.copy-board.ensures.value
    record {
      position = subst IsPosition (sym c.copy-board.ensures.value) c.copy-board.ensures.whole;
      fits = subst (Fits (g.G.Game.game c.args.game.now).cells) (sym c.copy-board.ensures.value) c.requires.fits;
    }

pub overflow_add-steps : goal.overflow_add-steps
overflow_add-steps g c =
    omega (arith, so_room _ _ _ _ _ _ _ _ _ _ _ _ _ c.loop-token.invariant c.in-Some.ensures.steps, c.requires.short)

pub returns-in_default-clause-replayed : goal.returns-in_default-clause-replayed
returns-in_default-clause-replayed g c =
    so_bad _ _ _ _ _ _ _ _ _ _ _ _ _ c.loop-token.invariant c.in-Some.ensures.steps c.in_default.ensures.refused

pub returns-in_default-clause-stays : goal.returns-in_default-clause-stays
returns-in_default-clause-stays g c = λ failed begins.
    absurd (stays_bad _ _ _ _ _ _ _ _ _ _ _ _ _ c.loop-token.invariant c.in-Some.ensures.steps c.in_default.ensures.refused failed begins)

pub returns-then-not-allows-clause-replayed : goal.returns-then-not-allows-clause-replayed
returns-then-not-allows-clause-replayed g c =
    so_refused _ _ _ _ _ _ _ _ _ _ _ _ _ _ c.loop-token.invariant c.in-Some.ensures.steps c.in-Some-read_token.ensures.read (λ a. false≢true (c.if-not-allows.ensures.value.1 a))

pub returns-then-not-allows-clause-stays : goal.returns-then-not-allows-clause-stays
returns-then-not-allows-clause-stays g c = λ failed begins.
    absurd (stays_refused _ _ _ _ _ _ _ _ _ _ _ _ _ _ c.loop-token.invariant c.in-Some.ensures.steps c.in-Some-read_token.ensures.read (λ a. false≢true (c.if-not-allows.ensures.value.1 a)) failed begins)

pub loop-token-preserved : goal.loop-token-preserved
loop-token-preserved g c =
    so_next _ _ _ _ _ _ _ _ _ _ _ _ _ _ _ _ _ _ c.loop-token.invariant c.in-Some.ensures.steps c.in-Some-read_token.ensures.read c.apply.ensures.step
    c.cells.ensures.value (page_taken _ _ _ _ _ _ _ c.of-told.ensures.value c.in_ok-write_page.ensures.whole)
    (sound_at_ok _ c.in_ok-write_page.ensures.stays) (sound_at_ok _ c.in_ok-write_page.ensures.fault.1)

pub returns-in_err-write_page-clause-replayed : goal.returns-in_err-write_page-clause-replayed
returns-in_err-write_page-clause-replayed g c =
    subst (ReplaysAs c.args.page (g.G.Game.game c.args.game.now) c.args.position.now (move_tokens c.args.text.now) (sink_change (g.K.Sink.held c.args.sink.now) (g.K.Sink.held c.write_page.new.sink)))
    (err_is _ _ c.from_residual.result c.from_residual.ensures)
    (so_failed _ _ _ _ _ c.next.new.self.rest.now _ _ _ _ _ _ _ _ _ _ _ c.loop-token.invariant c.in-Some.ensures.steps c.in-Some-read_token.ensures.read c.apply.ensures.step
    c.cells.ensures.value (page_front _ _ _ _ _ _ _ c.of-told.ensures.value c.in_err-write_page.ensures.front))

pub returns-clause-replayed : goal.returns-clause-replayed
returns-clause-replayed g c =
    so_all _ _ _ _ _ _ _ _ _ _ _ _ c.loop-token.invariant c.in-None.ensures.steps.0 c.is_won.ensures.value
