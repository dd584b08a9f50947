use Rattle.std.proofs.Common.{◌≤◌, length}
use Rattle.fc_lists.proofs.PlayedLemmas.{Made}
use Rattle.fc_lists.proofs.list_plays.make_moves.Given as goal

-- the moves so far were made, which are no more than are wanted, and the others are left
abbrev pub invariant-loop-token : goal.invariant-loop-token
invariant-loop-token g l =
    Made (g.G.Game.game l.game) l.position l.text l.token-iterator.rest.now l.moves.items l.board × (length l.moves.items ≤ l.most)
