use Rattle.std.proofs.Common.{◌≡◌, ◌≤◌, drop}
use Rattle.fc_moves.specs.GameRules.{IsPositionOf}
use Rattle.fc_lists.specs.Weaving.{Weaves}
use Rattle.fc_lists.proofs.weaving.weave_entries.Given as goal

-- the moves so far are woven up to the entries that are left
abbrev pub invariant-loop-e : goal.invariant-loop-e
invariant-loop-e g l = record {
  position : IsPositionOf (g.G.Game.game l.game) l.board;
  woven : Weaves (g.G.Game.game l.game) l.start l.list (drop l.e-index l.list) (record { moves = l.moves.items; listed = l.listed }) l.board;
  count : l.step ≡ l.e-index;
  few : l.listed ≤ l.e-index;
}
