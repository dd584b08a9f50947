use Rattle.fc_codes.proofs.StackLemmas.{TellsHeads}
use Rattle.fc_codes.proofs.start_layouts.heads_of.Given as goal

-- the columns so far are told of their deepest cards
abbrev pub invariant-loop-i : goal.invariant-loop-i
invariant-loop-i l =
    TellsHeads l.start l.i l.heads
