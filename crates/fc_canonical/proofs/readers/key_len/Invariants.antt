use Rattle.std.proofs.Common.{drop}
use Rattle.fc_canonical.proofs.ReadLemmas.{FrontColumns}
use Rattle.fc_canonical.proofs.readers.key_len.Given as goal

-- so many columns stand before the rest
abbrev pub invariant-loop : goal.invariant-loop
invariant-loop l = FrontColumns (drop 8 l.bytes) l.rest l.counter
