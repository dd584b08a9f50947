use Rattle.std.proofs.Common.{◌*◌, ◌≤◌}
use Rattle.arrayvec.specs.ArrayVec.{array_vec_len}
use Rattle.fc_canonical.specs.inner.Wanted.{ListsWantedBelow}
use Rattle.fc_canonical.proofs.wanted.list_from_columns.Given as goal

-- the wanted moves of the columns before this one are listed, at most ten of each
abbrev pub invariant-loop-i : goal.invariant-loop-i
invariant-loop-i g l = record {
  listed : ListsWantedBelow (g.G.Game.game l.game) l.position l.wanted (l.i * 13) l.list.items l.others;
  count : array_vec_len l.list ≤ 10 * l.i;
}
