use Rattle.std.proofs.Common.{ℕ, ◌<◌, get_or}
use Rattle.fc_position.specs.Board.{Board}
use Rattle.fc_moves.specs.declared.steps.Move.{Move}
use Rattle.fc_moves.specs.Step.{Step}
use Rattle.fc_canonical.specs.Key.{IsKeyOf}
use Rattle.fc_canonical.proofs.searches.find_move.Given as goal

-- none of the moves so far leads to the key
abbrev pub invariant-loop-m : goal.invariant-loop-m
invariant-loop-m g l = (k : ℕ) (d : Move) (x : Board) → k < l.m-index
    → Step (g.G.Game.game l.game) l.position (get_or l.m-items k d) x → IsKeyOf x l.target.items → ⊥
