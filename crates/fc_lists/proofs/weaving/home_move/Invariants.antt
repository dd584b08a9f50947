use Rattle.std.proofs.Common.{◌<◌, ℕ, get_or}
use Rattle.fc_moves.specs.declared.steps.Move.{Move}
use Rattle.fc_lists.specs.Weaving.{IsMoveHome}
use Rattle.fc_lists.proofs.weaving.home_move.Given as goal

-- no move so far goes home
abbrev pub invariant-loop-m : goal.invariant-loop-m
invariant-loop-m g l = (j : ℕ) (d : Move) → j < l.m-index → IsMoveHome (get_or l.m-items j d) → ⊥
