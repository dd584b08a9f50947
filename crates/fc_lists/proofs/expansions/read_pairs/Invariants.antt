use Rattle.std.proofs.Common.{◌≤◌, length}
use Rattle.fc_lists.proofs.ExpandedLemmas.{Listed}
use Rattle.fc_lists.proofs.expansions.read_pairs.Given as goal

-- the tokens so far spell these entries, which are no more than are wanted, and the others are left
abbrev pub invariant-loop-token : goal.invariant-loop-token
invariant-loop-token l = Listed l.text l.token-iterator.rest.now l.pairs.items × (length l.pairs.items ≤ l.most)
