use Rattle.fc_text.proofs.HomeLemmas.{HomesSoFar}
use Rattle.fc_text.proofs.readers.read_homes.Given as goal

-- the tokens so far are read, and the others are left
abbrev pub invariant-loop-token : goal.invariant-loop-token
invariant-loop-token l = HomesSoFar l.piece l.token-iterator.rest.now l.homes l.named
