use Rattle.std.proofs.Common.{◌≡◌, take}
use Rattle.fc_position.proofs.columns.Column.of.Given as goal

-- the column has the cards so far
abbrev pub invariant-loop-card : goal.invariant-loop-card
invariant-loop-card l =
    l.column ≡ take l.card-index l.cards
