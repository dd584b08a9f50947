use Rattle.std.proofs.Common.{ℕ, ◌<◌, get_or}
use Rattle.fc_moves.specs.declared.steps.Move.{Move}
use Rattle.fc_space.specs.Children.{frame_of}
use Rattle.fc_space.specs.Ways.{LeadsWithin}
use Rattle.fc_space.proofs.ways.way_on.Given as goal

-- none of the moves so far leads there
abbrev pub invariant-loop-m : goal.invariant-loop-m
invariant-loop-m g l = (k : ℕ) (d : Move) → k < l.m-index
    → LeadsWithin (frame_of (g.G.Game.game l.space.rules.game) l.space.rules.rule l.space.rules.kind l.space.start) l.position l.to l.most (get_or l.m-items k d) → ⊥
