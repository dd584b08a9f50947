use Rattle.std.proofs.Common.{◌≡◌, ◌<◌, ℕ, None, get_or}
use Rattle.std.specs.Prelude.{IfSome}
use Rattle.fc_moves.specs.declared.steps.Move.{Move}
use Rattle.fc_moves.specs.Step.{Allows}
use Rattle.fc_lists.specs.Weaving.{IsMoveHome, MakesWay}
use Rattle.fc_lists.specs.inner.Ways.{SomeMakesWay}
use Rattle.fc_lists.proofs.weaving.way_home.Given as goal

-- the chosen move is one home that is allowed; where there is none, none so far goes home; and it makes way where one of them does
abbrev pub invariant-loop-m : goal.invariant-loop-m
invariant-loop-m g l = record {
  some : IfSome l.chosen (λ m. IsMoveHome m × Allows (g.G.Game.game l.game) l.position m);
  way : (j : ℕ) (f : Move) → j < l.m-index → IsMoveHome (get_or l.m-items j f)
      → MakesWay (g.G.Game.game l.game) l.position (get_or l.m-items j f) l.e → SomeMakesWay (g.G.Game.game l.game) l.position l.chosen l.e;
  none : l.chosen ≡ None → (j : ℕ) (f : Move) → j < l.m-index → IsMoveHome (get_or l.m-items j f) → ⊥;
}
