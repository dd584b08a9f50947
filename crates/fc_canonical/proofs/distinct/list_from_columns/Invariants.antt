use Rattle.std.proofs.Common.{◌*◌, ◌≤◌}
use Rattle.arrayvec.specs.ArrayVec.{array_vec_len}
use Rattle.fc_canonical.specs.inner.Distinct.{ListsDistinctBelow}
use Rattle.fc_canonical.proofs.distinct.list_from_columns.Given as goal

-- the moves of the columns before this one are listed, at most ten of each
abbrev pub invariant-loop-i : goal.invariant-loop-i
invariant-loop-i g l = record {
  listed : ListsDistinctBelow (g.G.Game.game l.game) l.position (l.i * 13) l.list.items;
  count : array_vec_len l.list ≤ 10 * l.i;
}
