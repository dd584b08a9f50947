use Rattle.std.proofs.Common.{◌+◌, ◌*◌, ◌≤◌}
use Rattle.arrayvec.specs.ArrayVec.{array_vec_len}
use Rattle.fc_moves.specs.Step.{place_number}
use Rattle.fc_canonical.specs.inner.Distinct.{AddsDistinct}
use Rattle.fc_canonical.proofs.TakerLemmas.{AreTakersFrom}
use Rattle.fc_canonical.proofs.distinct.list_to_columns.Given as goal

-- the moves to the columns before this one are listed, at most one to each, and the bits are of those from it on
abbrev pub invariant-loop-rest : goal.invariant-loop-rest
invariant-loop-rest g l = record {
  adds : AddsDistinct (g.G.Game.game l.game) l.position l.source.from (place_number l.source.from * 13)
      (place_number l.source.from * 13 + l.j) l.initial.list.items l.list.items;
  count : array_vec_len l.list ≤ array_vec_len l.initial.list + l.j;
  left : AreTakersFrom l.initial.rest l.j l.rest;
}

abbrev pub decreases-loop-rest : goal.decreases-loop-rest
decreases-loop-rest g l = l.rest
