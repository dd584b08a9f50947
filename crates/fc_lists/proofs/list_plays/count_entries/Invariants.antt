use Rattle.fc_lists.proofs.FrontLemmas.{Counted}
use Rattle.fc_lists.proofs.list_plays.count_entries.Given as goal

-- so many tokens were counted, and the others are left
abbrev pub invariant-loop-token : goal.invariant-loop-token
invariant-loop-token l = Counted l.text l._token-iterator.rest.now l.count
