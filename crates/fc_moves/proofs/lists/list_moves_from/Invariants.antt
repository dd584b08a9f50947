use Rattle.arrayvec.specs.ArrayVec.{array_vec_len}
use Rattle.fc_moves.proofs.ListLemmas.{Turn}
use Rattle.fc_moves.proofs.lists.list_moves_from.Given as goal

-- the moves to the places before this one are listed, and they are no more than may be
abbrev pub invariant-loop-number : goal.invariant-loop-number
invariant-loop-number g l =
    Turn (g.G.Game.game l.game) l.position l.from (array_vec_len l.initial.list) l.number l.list.items
