use Rattle.std.proofs.Common.{◌≡◌, length, take}
use Rattle.fc_position.specs.Board.{column}
use Rattle.fc_codes.specs.inner.Landed.{EndsWith, TellsCards}
use Rattle.fc_codes.proofs.start_layouts.Layout.with_column.Given as goal

-- the states of the cards so far are told, and the last of them is below the next
abbrev pub invariant-loop-card : goal.invariant-loop-card
invariant-loop-card l =
    (length l.code ≡ length l.fn.code) × TellsCards l.self l.position (take l.card-index (column l.position l.i)) l.fn.code l.code
    × EndsWith (take l.card-index (column l.position l.i)) l.below
