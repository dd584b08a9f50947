use Rattle.fc_text.proofs.ReaderLemmas.{ColumnSoFar}
use Rattle.fc_text.proofs.readers.read_column.Given as goal

-- the tokens so far are read, and the others are left
abbrev pub invariant-loop-token : goal.invariant-loop-token
invariant-loop-token l = ColumnSoFar l.piece l.token-iterator.rest.now l.column.items l.initial.tally l.tally
