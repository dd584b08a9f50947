use Rattle.fc_lists.specs.Word.{words_of}
use Rattle.fc_lists.specs.inner.Held.{IsPending}
use Rattle.fc_lists.proofs.people.read_entries.Given as goal

-- the words so far are read, and the others are left
abbrev pub invariant-loop-token : goal.invariant-loop-token
invariant-loop-token l = IsPending (words_of l.list) l.held l.entries.items (words_of l.token-iterator.rest.now)
