use Rattle.std.proofs.Common.{◌≡◌, length, take, ◌∷◌, ◌++◌}
use Rattle.fc_canonical.proofs.keys.write_column.Given as goal

-- the number of the cards and the cards so far are written
abbrev pub invariant-loop-card : goal.invariant-loop-card
invariant-loop-card l = l.key.items ≡ l.fn.key.items ++ length l.cards ∷ take l.card-index l.cards
