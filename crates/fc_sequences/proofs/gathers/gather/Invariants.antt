use Rattle.std.proofs.Common.{◌-◌, ◌≤◌, drop, length}
use Rattle.fc_moves.specs.GameRules.{IsPositionOf}
use Rattle.fc_sequences.specs.inner.Part.{GathersDownTo}
use Rattle.fc_sequences.proofs.gathers.gather.Given as goal

-- the moves before the step are gathered
abbrev pub invariant-loop-step : goal.invariant-loop-step
invariant-loop-step g l = record {
  within : l.step ≤ length l.moves;
  gathered : GathersDownTo (g.G.Game.game l.game) l.position l.pairs.items l.moves (drop l.step l.moves) l.board;
  fits : IsPositionOf (g.G.Game.game l.game) l.board;
}

abbrev pub decreases-loop-step : goal.decreases-loop-step
decreases-loop-step g l = length l.moves - l.step
