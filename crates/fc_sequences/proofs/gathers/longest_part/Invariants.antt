use Rattle.std.proofs.Common.{take}
use Rattle.fc_moves.specs.GameRules.{IsPositionOf}
use Rattle.fc_moves.specs.Run.{Run}
use Rattle.fc_sequences.specs.inner.Part.{IsPart, NoneLonger}
use Rattle.fc_sequences.proofs.gathers.longest_part.Given as goal

-- the longest part so far is known, and the moves so far run to the board that stands there
abbrev pub invariant-loop-index : goal.invariant-loop-index
invariant-loop-index g l = record {
  part : IsPart (g.G.Game.game l.game) l.position l.moves l.longest;
  longest : NoneLonger (g.G.Game.game l.game) l.position l.moves l.index l.longest.moves;
  run : Run (g.G.Game.game l.game) l.position (take l.index l.moves) l.after;
  fits : IsPositionOf (g.G.Game.game l.game) l.after;
}
