use Rattle.std.proofs.Common.{◌≡◌, ◌+◌, ◌*◌, ◌≤◌}
use Rattle.arrayvec.specs.ArrayVec.{array_vec_len}
use Rattle.fc_canonical.specs.inner.Wanted.{ListsWantedBelow}
use Rattle.fc_canonical.proofs.wanted.list_from_cells.Given as goal

-- the wanted moves of the columns and of the cells before this one are listed, at most ten of each
abbrev pub invariant-loop-i : goal.invariant-loop-i
invariant-loop-i g l = record {
  listed : ListsWantedBelow (g.G.Game.game l.game) l.position l.sought.cards ((8 + l.i) * 13) l.list.items l.sought.others;
  cards : l.sought.cards ≡ l.fn.sought.cards;
  count : array_vec_len l.list ≤ 80 + 10 * l.i;
}
