use Rattle.fc_canonical.proofs.ReadLemmas.{HoldsTo}
use Rattle.fc_canonical.proofs.readers.after_columns.Given as goal

-- so many columns of cards stand before the rest
abbrev pub invariant-loop : goal.invariant-loop
invariant-loop l = HoldsTo l.bytes l.rest l.counter
