use Rattle.fc_library.proofs.SpelledLemmas.{Spelled}
use Rattle.fc_library.proofs.spelled_lists.moves_of.Given as goal

-- the tokens so far spell these moves, and the others are left
abbrev pub invariant-loop-token : goal.invariant-loop-token
invariant-loop-token l = Spelled l.list l.token-iterator.rest.now l.moves.items
