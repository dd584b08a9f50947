use Rattle.std.proofs.Common.{sym, ◌∙◌, ap, subst, arith}
use Rattle.fc_position.specs.Position.{Fits, IsPosition}
use Rattle.fc_replay.proofs.StopLoop.{found_none, found_next, found_room, found_stop}
use Rattle.fc_replay.proofs.stops.first_stop.Goals as goal

pub loop-token-init : goal.loop-token-init
loop-token-init g c =
    found_none _ _ _ _ _ (ap (λ i. i.rest.now) c.into_iter-token-iterator.ensures.into_iter_gives ∙ c.new-token-items.ensures.rest) c.copy-board.ensures.value
    record {
      position = subst IsPosition (sym c.copy-board.ensures.value) c.copy-board.ensures.whole;
      fits = subst (Fits (g.G.Game.game c.args.game.now).cells) (sym c.copy-board.ensures.value) c.requires.fits;
    }

pub overflow_add-step : goal.overflow_add-step
overflow_add-step g c =
    omega (arith, found_room _ _ _ _ _ _ _ _ c.loop-token.invariant c.in-Some.ensures.steps, c.requires.short)

pub returns-in_default-clause-stopped : goal.returns-in_default-clause-stopped
returns-in_default-clause-stopped g c =
    found_stop _ _ _ _ _ _ _ _ _ c.loop-token.invariant c.in-Some.ensures.steps c.in_default.ensures.refused

pub returns-in-Some-refusal_of-clause-stopped : goal.returns-in-Some-refusal_of-clause-stopped
returns-in-Some-refusal_of-clause-stopped g c =
    found_stop _ _ _ _ _ _ _ _ _ c.loop-token.invariant c.in-Some.ensures.steps
    (_, c.in-Some-read_token.ensures.read, c.in-Some-refusal_of.ensures.why, c.of-told.ensures.value)

pub loop-token-preserved : goal.loop-token-preserved
loop-token-preserved g c =
    found_next _ _ _ _ _ _ _ _ _ _ c.loop-token.invariant c.in-Some.ensures.steps c.in-Some-read_token.ensures.read c.apply.ensures.step
