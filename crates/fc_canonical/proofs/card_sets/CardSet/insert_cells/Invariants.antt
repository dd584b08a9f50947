use Rattle.std.proofs.Common.{◌≡◌, ℕ, ◌+◌, take}
use Rattle.fc_canonical.specs.inner.Parts.{times_in, count_in_cells}
use Rattle.fc_canonical.proofs.card_sets.CardSet.insert_cells.Given as goal

-- the cards of the cells so far are added
abbrev pub invariant-loop-byte : goal.invariant-loop-byte
invariant-loop-byte l = (c : ℕ) → times_in l.self c ≡ times_in l.fn.self c + count_in_cells c (take l.byte-index l.cells)
