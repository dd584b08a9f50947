use Rattle.std.proofs.Common.{take, drop}
use Rattle.fc_position.specs.Board.{Board}
use Rattle.fc_moves.specs.GameRules.{IsPositionOf}
use Rattle.fc_sequences.specs.Following.{Expands}
use Rattle.fc_sequences.specs.inner.Layers.{PlaysAll}
use Rattle.fc_sequences.proofs.list_expansions.moves_by.Given as goal

-- the moves so far expand the entries so far, and the others lead on from the board that stands there
abbrev pub invariant-loop-index : goal.invariant-loop-index
invariant-loop-index g l =
    IsPositionOf (g.G.Game.game l.game) l.here
    × ((c : Board) → PlaysAll (g.G.Game.game l.game) l.position l.pairs l.counts c
    → Expands (g.G.Game.game l.game) l.position (take l.index l.pairs) l.moves.items l.here
    × PlaysAll (g.G.Game.game l.game) l.here (drop l.index l.pairs) (drop l.index l.counts) c)
