use Rattle.std.proofs.Common.{drop}
use Rattle.fc_typed.proofs.CountLemmas.{NumberSoFar}
use Rattle.fc_typed.proofs.counts.read_number.Given as goal

-- the bytes so far are read, and the others are left
abbrev pub invariant-loop-byte : goal.invariant-loop-byte
invariant-loop-byte l = NumberSoFar 4294967295 l.text (drop l.byte-index l.text) l.value
