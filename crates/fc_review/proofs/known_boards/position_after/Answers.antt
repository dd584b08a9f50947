use Rattle.fc_moves.proofs.StepLemmas.{step_keeps}
use Rattle.fc_best.proofs.TailLemmas.{moves_from, way_allowed, way_next}
use Rattle.fc_review.proofs.known_boards.position_after.Goals as goal

pub apply-requires : goal.apply-requires
apply-requires g c = record { allowed = way_allowed _ _ _ _ _ _ _ c.loop-m.invariant.0 (moves_from _ _ _ c.loop-m-test.true) }

pub loop-m-preserved : goal.loop-m-preserved
loop-m-preserved g c = (
  way_next _ _ _ _ _ _ _ _ c.loop-m.invariant.0 (moves_from _ _ _ c.loop-m-test.true) c.apply.ensures.step,
  step_keeps _ _ _ _ c.loop-m.invariant.1 c.apply.ensures.step,
)
