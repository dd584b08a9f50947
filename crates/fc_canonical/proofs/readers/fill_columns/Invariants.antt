use Rattle.fc_canonical.proofs.ReadLemmas.{FilledTo}
use Rattle.fc_canonical.proofs.readers.fill_columns.Given as goal

-- the columns so far are those before the rest, and the others are empty
abbrev pub invariant-loop-i : goal.invariant-loop-i
invariant-loop-i l = FilledTo l.bytes l.rest l.columns l.i
