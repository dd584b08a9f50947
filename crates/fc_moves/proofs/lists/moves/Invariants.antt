use Rattle.std.proofs.Common.{◌*◌, ◌<◌, ◌≤◌}
use Rattle.arrayvec.specs.ArrayVec.{array_vec_len}
use Rattle.fc_position.specs.Position.{IsPosition}
use Rattle.fc_moves.specs.inner.Step.{ListsBelow}
use Rattle.fc_moves.proofs.ListLemmas.{most_before}
use Rattle.fc_moves.proofs.lists.moves.Given as goal

-- the moves from the places before this one are listed, they are no more than may be, and looking at the first place has
-- told that the position is one
abbrev pub invariant-loop-number : goal.invariant-loop-number
invariant-loop-number g l = record {
  listed : ListsBelow (g.G.Game.game l.game) l.position (l.number * 13) l.list.items;
  whole : 0 < l.number → IsPosition l.position;
  count : array_vec_len l.list ≤ most_before l.number;
}
