use Rattle.std.proofs.Common.{◌≡◌, ℕ, ◌+◌, take}
use Rattle.fc_position.specs.Board.{count_in_column}
use Rattle.fc_canonical.specs.inner.Parts.{times_in}
use Rattle.fc_canonical.proofs.card_sets.CardSet.insert_all.Given as goal

-- the cards so far are added
abbrev pub invariant-loop-card : goal.invariant-loop-card
invariant-loop-card l = (c : ℕ) → times_in l.self c ≡ times_in l.fn.self c + count_in_column c (take l.card-index l.cards)
