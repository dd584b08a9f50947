use Rattle.std.proofs.Common.{◌≡◌, ℕ, List, ◌∷◌, ◌++◌}
use Rattle.fc_replay.specs.Token.{move_tokens}
use Rattle.fc_lists.proofs.told_entries.last_of.Given as goal

-- the last of the words so far stands before those that are left
abbrev pub invariant-loop-word : goal.invariant-loop-word
invariant-loop-word l = (front : List (List ℕ)) × (move_tokens l.text ≡ front ++ l.last ∷ move_tokens l.word-iterator.rest.now)
