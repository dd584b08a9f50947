use Rattle.fc_text.proofs.ReaderLemmas.{CellsSoFar}
use Rattle.fc_text.proofs.readers.read_cells.Given as goal

-- the tokens so far are read, and the others are left
abbrev pub invariant-loop-token : goal.invariant-loop-token
invariant-loop-token l = CellsSoFar l.piece l.token-iterator.rest.now l.cells l.count
