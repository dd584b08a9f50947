use Rattle.std.proofs.Common.{◌≡◌, ◌++◌, take}
use Rattle.fc_canonical.proofs.readers.push_cards.Given as goal

-- the cards so far are appended
abbrev pub invariant-loop-byte : goal.invariant-loop-byte
invariant-loop-byte l = l.cards.items ≡ l.fn.cards.items ++ take l.byte-index l.bytes
