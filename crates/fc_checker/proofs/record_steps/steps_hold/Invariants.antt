use Rattle.std.proofs.Common.{◌≡◌, ℕ, ◌<◌, get_or}
use Rattle.fc_moves.specs.declared.steps.Move.{Move}
use Rattle.fc_checker.specs.inner.Lookups.{IsLookupOf}
use Rattle.fc_checker.specs.inner.Steps.{StepHolds}
use Rattle.fc_checker.proofs.record_steps.steps_hold.Given as goal

-- the position is as it was, and what is looked up of it, and where the moves so far lead, it holds
abbrev pub invariant-loop-m : goal.invariant-loop-m
invariant-loop-m g l = record {
  same : l.position ≡ l.fn.position;
  looked : IsLookupOf l.position l.lookup;
  held : (k : ℕ) (d : Move) → k < l.m-index → StepHolds (g.G.Game.game l.game) l.certificate l.fn.position l.parent.cost (get_or l.m-items k d);
}
