use Rattle.std.proofs.Common.{◌+◌, ◌<◌, ◌≤◌, length, take}
use Rattle.fc_sequences.specs.Following.{LeadToFewBefore}
use Rattle.fc_sequences.specs.declared.list_expansions.TheConstants.{MOST_BOARDS}
use Rattle.fc_sequences.specs.inner.Layers.{IsGrown}
use Rattle.fc_sequences.proofs.list_expansions.grow.Given as goal

-- the boards to which the entries so far lead, of which there are some, and never too many
abbrev pub invariant-loop-index : goal.invariant-loop-index
invariant-loop-index g l =
    IsGrown (g.G.Game.game l.game) l.position (take l.index l.pairs) l.layers.items l.boards.items × (0 < length l.boards.items)
    × (length l.boards.items ≤ MOST_BOARDS) × LeadToFewBefore (g.G.Game.game l.game) l.position l.pairs (l.index + 1)
