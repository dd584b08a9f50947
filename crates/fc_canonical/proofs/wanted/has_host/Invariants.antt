use Rattle.std.proofs.Common.{◌≡◌, ℕ, ◌<◌, Some}
use Rattle.fc_position.specs.Board.{column, last_of}
use Rattle.fc_moves.specs.GameRules.{Stands}
use Rattle.fc_canonical.proofs.wanted.has_host.Given as goal

-- on the last card of none of the columns so far the card may be put
abbrev pub invariant-loop-j : goal.invariant-loop-j
invariant-loop-j g l = (k u : ℕ) → k < l.j → last_of (column l.position k) ≡ Some u
    → Stands (g.G.Game.game l.game) l.source.card u → ⊥
